-- A run: any list of calls on a decoder, and what each is answered.
use Rattle.std.specs.Prelude.{ℕ, List, [], ◌∷◌}
use Rattle.rules.specs.State.{reset}
use Rattle.rules.specs.Instruct.{instruct, word_run}
use Rattle.rules.specs.Search.{search_to, search_on}
use Rattle.rules.specs.Pairs.{pairs, listed}
use Rattle.rules.specs.declared.graph.Graph.{Graph}
use Rattle.rules.specs.declared.state.State.{State}
use Rattle.rules.specs.declared.state.Cycle.{Cycle}
use Rattle.rules.specs.declared.state.WordCycle.{WordCycle}
use Rattle.rules.specs.declared.state.Searched.{Searched}
use Rattle.rules.specs.Types.{Answer, Listed, WordAnswer}
use Rattle.std.specs.Prelude.{Err, Ok}
use Rattle.rules.specs.declared.finding.Sought.{Sought}
use Rattle.rules.specs.declared.instruction.Instruction.{Instruction}

-- what may be looked at
pub data Look : Type 0 where
  -- the pairs, listed into a buffer of so many places
  list : ℕ → Look

pub data Call : Type 0 where
  execute : Instruction → Call
  word : ℕ → Call
  clear : Call
  -- search with a new maximum, and with what is left
  seek : ℕ → Call
  seek_on : Call
  -- look at the state, which stays
  look : Look → Call

pub data Reply : Type 0 where
  executed : Answer → Reply
  carried : WordAnswer → Reply
  cleared : Reply
  -- with the maximum left
  found : Sought → ℕ → Reply
  -- with the pairs written
  paired : Listed → List ℕ → Reply

pub record Turn : Type 0 where
  pub state : State
  pub reply : Reply

abbrev pub of_cycle : Cycle → Turn
of_cycle c = record { state = c.state; reply = executed c.answer }

abbrev pub of_word : WordCycle → Turn
of_word c = record { state = c.state; reply = carried c.answer }

-- "19: .. buffer and decoder unchanged": a refusal comes with no pairs
abbrev pub of_list : Listed → List ℕ → Reply
of_list (Ok n) es = paired (Ok n) es
of_list (Err r) es = paired (Err r) []

abbrev pub of_search : Searched → Turn
of_search a = record { state = a.state; reply = found a.answer a.state.maximum }

module _ (g : Graph) where
  -- what a look at the state s shows
  abbrev pub looked : State → Look → Reply
  looked s (list room) = of_list (listed s room) (pairs s)

  unfoldable pub call : State → Call → Turn
  call s (execute i) = of_cycle (instruct g s i)
  call s (word w) = of_word (word_run g s w)
  call s clear = record { state = reset g s; reply = cleared }
  call s (seek m) = of_search (search_to g s m)
  call s seek_on = of_search (search_on g s)
  call s (look l) = record { state = s; reply = looked s l }

  unfoldable pub replies : State → List Call → List Reply
  replies s [] = []
  replies s (c ∷ cs) = let t = call s c in t.reply ∷ replies t.state cs

  unfoldable pub run : State → List Call → State
  run s [] = s
  run s (c ∷ cs) = run (call s c).state cs
