-- One turn of a search, as the code tells it: the end, or by how much it grew.
use Rattle.std.specs.Prelude.{ℕ, min, eqb, Result, Ok, Err}
use Rattle.laws.specs.Choice.{pick}
use Rattle.rules.specs.Search.{Turned, stops, goes, ordered}
use Rattle.rules.specs.Types.{Answer}
use Rattle.rules.specs.declared.finding.Finding.{Finding}
use Rattle.rules.specs.declared.finding.Finding.TheVariants.{GrowLength, Conflict}
use Rattle.rules.specs.declared.finding.Length.TheVariants.{NoLimit, Ahead, Behind}
use Rattle.rules.specs.declared.refusal.Refusal.{Refusal}
use Rattle.rules.specs.declared.refusal.Refusal.TheVariants.{NegativeLength}
use Rattle.rules.specs.declared.state.State.{State}
use Rattle.comb_search.specs.declared.turn.Turn.{Turn}
use Rattle.comb_search.specs.declared.turn.Turn.TheVariants.{Found, Grew}

-- what a turn leaves, and what is told of it
pub record Took : Type 0 where
  pub state : State
  pub turn : Result Turn Refusal

abbrev pub answer_told : Answer → Result Turn Refusal
answer_told (Ok f) = Ok (Found f)
answer_told (Err r) = Err r

-- of a turn from a walk that just begins, so that its growth is the length grown by
abbrev pub took : Turned → Took
took (stops e) = record { state = e.walk.state; turn = answer_told e.answer }
took (goes w) = record { state = w.state; turn = Ok (Grew w.growth 0) }

-- a turn without those that repeat it
abbrev pub once : Result Turn Refusal → Result Turn Refusal
once (Ok (Found f)) = Ok (Found f)
once (Ok (Grew n k)) = Ok (Grew n 0)
once (Err r) = Err r

-- ---- what a finding leads to, with so much of the maximum left

unfoldable pub to_grow : ℕ → Turn
to_grow n = pick (eqb n 0) (Found (GrowLength (Ahead 0))) (Grew n 0)

abbrev pub clamped : ℕ → ℕ → Turn
clamped n left = to_grow (min n left)

abbrev pub next_of : Finding → ℕ → Result Turn Refusal
next_of (Conflict a b) left = Ok (Found (ordered a b))
next_of (GrowLength NoLimit) left = Ok (Found (GrowLength NoLimit))
next_of (GrowLength (Behind n)) left = Err NegativeLength
next_of (GrowLength (Ahead n)) left = Ok (clamped n left)
