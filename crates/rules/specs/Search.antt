-- Document 01, "Search".
use Rattle.std.specs.Prelude.{ℕ, zero, suc, ◌+◌, ◌-◌, min, Bool, true, false, List, [], ◌∷◌, ltb}
use Rattle.laws.specs.Choice.{pick}
use Rattle.rules.specs.Graph.{in_use}
use Rattle.rules.specs.Instruct.{step}
use Rattle.rules.specs.State.{with_maximum}
use Rattle.rules.specs.declared.graph.Graph.{Graph}
use Rattle.rules.specs.declared.state.State.{State}
use Rattle.rules.specs.declared.state.Searched.{Searched}
use Rattle.rules.specs.declared.finding.Length.TheVariants.{NoLimit, Ahead, Behind}
use Rattle.rules.specs.Types.{Answer, Node}
use Rattle.std.specs.Prelude.{Err, None, Ok, Some}
use Rattle.rules.specs.declared.finding.Side.{Side}
use Rattle.rules.specs.declared.finding.Finding.{Finding}
use Rattle.rules.specs.declared.finding.Finding.TheVariants.{GrowLength, Conflict}
use Rattle.rules.specs.declared.finding.Tally.{Tally}
use Rattle.rules.specs.declared.finding.Sought.{Sought}
use Rattle.rules.specs.declared.finding.Sought.TheVariants as S
use Rattle.rules.specs.declared.instruction.Instruction.TheVariants.{FindObstacle, Grow}
use Rattle.rules.specs.declared.refusal.Refusal.TheVariants.{OutOfBounds, NegativeLength}

-- "A growth step is a completed Grow, sent as an instruction or made by a search": its length, and the state before it
pub record GrowthStep : Type 0 where
  pub before : State
  pub length : ℕ

-- a search under way: the state, growth and number of steps so far, and the steps themselves, the last one first
pub record Walk : Type 0 where
  pub state : State
  pub growth : ℕ
  pub steps : ℕ
  pub trail : List GrowthStep

-- how a search ended
pub record Ended : Type 0 where
  pub walk : Walk
  pub answer : Answer

abbrev pub ends : Walk → Answer → Ended
ends c a = record { walk = c; answer = a }

abbrev pub is_absent : Node → Bool
is_absent None = true
is_absent (Some n) = false

-- "Conflict: swap the sides if the first node is absent"
abbrev pub ordered : Side → Side → Finding
ordered a b = pick (is_absent a.node) (Conflict b a) (Conflict a b)

-- a turn of the search ends it, or goes on
pub data Turned : Type 0 where
  stops : Ended → Turned
  goes : Walk → Turned

-- the walk at another state
abbrev pub at_state : Walk → State → Walk
at_state c s = record { state = s; growth = c.growth; steps = c.steps; trail = c.trail }

-- "Grow and lower the maximum"
abbrev pub grew : Walk → ℕ → State → Walk
grew c n s = record {
  state = with_maximum (s.maximum - n) s;
  growth = c.growth + n;
  steps = c.steps + 1;
  trail = record { before = c.state; length = n } ∷ c.trail;
}

abbrev pub after_grow : Walk → ℕ → State → Answer → Turned
after_grow c n s (Err r) = stops (ends c (Err r))
after_grow c n s (Ok f) = goes (grew c n s)

abbrev pub next : (Walk → Ended) → Turned → Ended
next go (stops a) = a
next go (goes c) = go c

module _ (g : Graph) where
  -- "at 0 stop with length 0; else Grow"
  unfoldable pub grow_by : Walk → ℕ → Turned
  grow_by c zero = stops (ends c (Ok (GrowLength (Ahead 0))))
  grow_by c (suc n) = let grown = step g c.state (Grow (suc n)) in after_grow c (suc n) grown.state grown.answer

  -- c is at the state after the finding
  unfoldable pub after_finding : Walk → Answer → Turned
  after_finding c (Err r) = stops (ends c (Err r))
  after_finding c (Ok (Conflict a b)) = stops (ends c (Ok (ordered a b)))
  -- "No limit: stop, before clamping"
  after_finding c (Ok (GrowLength NoLimit)) = stops (ends c (Ok (GrowLength NoLimit)))
  -- "17: a search finds a negative length; state after that finding"
  after_finding c (Ok (GrowLength (Behind n))) = stops (ends c (Err NegativeLength))
  -- "Otherwise clamp to the maximum"
  after_finding c (Ok (GrowLength (Ahead n))) = grow_by c (min n c.state.maximum)

  -- "Repeat FindObstacle"
  unfoldable pub turn : Walk → Turned
  turn c = let found = step g c.state FindObstacle in after_finding (at_state c found.state) found.answer

  -- so many turns at most. A search is given enough (`ends_within` in promises), so the case without any is never reached
  unfoldable pub walked : ℕ → Walk → Ended
  walked zero c = ends c (Ok (GrowLength (Ahead 0)))
  walked (suc n) c = next (λ d. walked n d) (turn c)

abbrev pub begun : State → Walk
begun s = record { state = s; growth = 0; steps = 0; trail = [] }

-- "It ends within maximum + 1 findings"
unfoldable pub search : Graph → State → Ended
search g s = walked (in_use g) (suc s.maximum) (begun s)

-- ---- what a caller is told: "The answer carries the finding, growth and number of growth steps"

abbrev pub tally : Walk → Tally
tally c = record { growth = c.growth; steps = c.steps }

abbrev pub sought : Ended → Sought
sought a = elim a.answer [ Ok f ↦ S.Found f (tally a.walk) | Err r ↦ S.Stopped r (tally a.walk) ]

abbrev pub told : Ended → Searched
told a = record { state = a.walk.state; answer = sought a }

-- search with what is left
unfoldable pub search_on : Graph → State → Searched
search_on g s = told (search g s)

-- "search with the value, read as signed, as new maximum"; "13: .. negative maximum; decoder as before"
unfoldable pub search_to : Graph → State → ℕ → Searched
search_to g s m =
    pick (ltb m 2_147_483_648) (search_on g (with_maximum m s)) (record { state = s; answer = S.NotBegun OutOfBounds })
