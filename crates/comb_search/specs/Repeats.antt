-- How many more steps repeat one, with so much left.
use Rattle.std.specs.Prelude.{ℕ, ◌*◌, ◌≤◌, ◌≡◌, List, Result, Ok, Err}
use Rattle.rules.specs.declared.refusal.Refusal.{Refusal}
use Rattle.rules.specs.declared.state.State.{State}
use Rattle.comb_search.specs.declared.turn.Turn.{Turn}
use Rattle.comb_search.specs.declared.turn.Turn.TheVariants.{Found, Grew}

-- k more steps of length n repeat one that took registers `before` to `after`: none if it moved anything
pub record Repeats (before after : List ℕ) (left n k : ℕ) : Type 0 where
  pub fits : k * n ≤ left
  pub still : 1 ≤ k → before ≡ after

-- so it is of a turn that grew
abbrev pub RepeatsTurn : State → State → Result Turn Refusal → Type 0
RepeatsTurn s t (Ok (Grew n k)) = Repeats s.registers t.registers t.maximum n k
RepeatsTurn s t (Ok (Found f)) = Unit {0}
RepeatsTurn s t (Err r) = Unit {0}
