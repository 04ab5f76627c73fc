-- What a record is answered, told as a line, is what the record does: its text is the answer's, and an unknown kind ends the replay.
use Prim.Native.Nat.{ℕ, zero, suc, ◌+◌, ◌≤◌}
use mathlib.Core.Path.{◌≡◌, refl, ap, ◌∙◌}
use mathlib.Core.Bool.{Bool, false}
use mathlib.Core.List.{List}
use native.Mathlib.Omega.{arith}
use lib.ListN.{length}
use Rattle.rules.specs.Pairs.{pairs, listed}
use Rattle.rules.specs.Run.{of_list, call}
use Rattle.rules.specs.Listing.{line, reply_text, record_call}
use Rattle.rules.specs.declared.graph.Graph.{Graph}
use Rattle.rules.specs.declared.state.State.{State}
use Rattle.rules.specs.Types.{Listed}
use Rattle.std.specs.Prelude.{Err, Ok}
use Rattle.laws.specs.Placed.{Wrote}
use Rattle.records.specs.Chunks.{Acted}
use Rattle.records.specs.Session.{acted_by}
use Rattle.records.specs.Answered.{Answer, answer_of, answered_by, answer, is_unknown}
use Rattle.records.specs.declared.Answered.{Answered}
use Rattle.listing.specs.Answers.{answer_text}
use Rattle.listing.specs.Lines.{longest_pairs, line_end, line_in, end_with_room, in_with_room}
use Rattle.listing.specs.Pairs.{pairs_text, pairs_told}

abbrev told_of : Answer → Acted State
told_of a = record { text = line (answer_text a.state.stalled a.answered); state = a.state; ended = is_unknown a.answered }

module _ (g : Graph) (s : State) where
  pairs_are : (n : Listed) (es : List ℕ) → reply_text (of_list n es) ≡ pairs_text s.stalled
      → record { text = line (reply_text (of_list n es)); state = s; ended = false } ≡ told_of (record { state = s; answered = answer_of (of_list n es) })
  unfolding answer_text
  pairs_are (Ok n) es e = ap (λ (t : List ℕ). record { text = line t; state = s; ended = false }) e
  pairs_are (Err r) es e = ap (λ (t : List ℕ). record { text = line t; state = s; ended = false }) e

  -- where the decoder has a flag for each edge
  pub acted_told : (kind value : ℕ) → length s.stalled ≤ 1_024 → acted_by g s (record_call kind value) ≡ told_of (answer g s kind value)
  unfolding acted_by answer answered_by record_call call answer_text
  acted_told zero value h = refl
  acted_told (suc zero) value h = refl
  acted_told (suc (suc zero)) value h = refl
  acted_told (suc (suc (suc zero))) value h = pairs_are (listed s 1_024) (pairs s) (pairs_told g s h)
  acted_told (suc (suc (suc (suc kind)))) value h = refl

-- one was done: its state is left, and its line stands in the buffer
pub record Ran (one : Acted State) (t : State) (ended : Bool) (at : ℕ) (before : List ℕ) (next : ℕ) (after : List ℕ) : Type 0 where
  pub state : t ≡ one.state
  pub end : ended ≡ one.ended
  pub wrote : Wrote one.text at before next after

-- where there is room for the longest line of all, a record's line is written
module _ (g : Graph) (s : State) (flags : length s.stalled ≤ 1_024) (kind value : ℕ) (t : State) (a : Answered)
    (is : record { state = t; answered = a } ≡ answer g s kind value) where
  abbrev text : List ℕ
  text = line (answer_text t.stalled a)

  ran_told : (e : Bool) (at next : ℕ) (x y : List ℕ) → e ≡ is_unknown a → Wrote text at x next y → Ran (told_of (record { state = t; answered = a })) t e at x next y
  ran_told e at next x y q w = record { state = refl; end = q; wrote = w }

  pub ran_record : (e : Bool) (at next : ℕ) (x y : List ℕ) → at + longest_pairs ≤ length x
      → e ≡ is_unknown a → next ≡ line_end longest_pairs at text x → y ≡ line_in longest_pairs at text x → next ≤ at + longest_pairs
      → Ran (acted_by g s (record_call kind value)) t e at x next y
  ran_record e at next x y room q n o l =
      rw (acted_told g s kind value flags, ← is)
      (ran_told e at next x y q
      (record { end = n ∙ end_with_room longest_pairs at text x room; inside = omega arith; bytes = o ∙ in_with_room longest_pairs at text x room }))
