-- What a record is answered, before any text is made of it.
use Rattle.std.specs.Prelude.{ℕ, Bool, true, false, Ok}
use Rattle.std.proofs.Math.Option.{Option, none, some}
use Rattle.rules.specs.Run.{Call, Reply, executed, carried, cleared, found, paired, call}
use Rattle.rules.specs.Listing.{record_call}
use Rattle.rules.specs.declared.graph.Graph.{Graph}
use Rattle.rules.specs.declared.state.State.{State}
use Rattle.rules.specs.Instruct.{word_answer}
use Rattle.rules.specs.declared.finding.Carried.TheVariants.{Reset}
use Rattle.records.specs.declared.Answered.{Answered}
use Rattle.records.specs.declared.Answered.TheVariants.{Word, Search, Pairs, Unknown}

-- the state that a record leaves, and its answer
pub record Answer : Type 0 where
  pub state : State
  pub answered : Answered

-- no record executes or clears but by a word
abbrev pub answer_of : Reply → Answered
answer_of (executed a) = Word (word_answer a)
answer_of (carried a) = Word a
answer_of cleared = Word (Ok Reset)
answer_of (found a left) = Search a left
answer_of (paired n es) = Pairs

module _ (g : Graph) where
  -- "18: session record .. of another kind"
  unfoldable pub answered_by : State → Option Call → Answer
  answered_by s none = record { state = s; answered = Unknown }
  answered_by s (some q) = let t = call g s q in record { state = t.state; answered = answer_of t.reply }

  unfoldable pub answer : State → ℕ → ℕ → Answer
  answer s kind value = answered_by s (record_call kind value)

-- ".. replay ends"
abbrev pub is_unknown : Answered → Bool
is_unknown (Word a) = false
is_unknown (Search a left) = false
is_unknown Pairs = false
is_unknown Unknown = true
