-- Demand 3's careful step: a growth step of a search, the finding before it, and what neither may take below zero.
use Rattle.std.specs.Prelude.{ℕ, ◌<◌, ◌≡◌, false, List, [], ◌∷◌, pos, ◌+ℤ◌, ◌≤ℤ◌}
use Rattle.rules.specs.Graph.{in_use, left_of, right_of}
use Rattle.rules.specs.Numbers.{signed}
use Rattle.rules.specs.Registers.{at, same_node}
use Rattle.rules.specs.Instruct.{step}
use Rattle.rules.specs.Search.{GrowthStep}
use Rattle.rules.specs.Run.{Call, execute, word, clear, seek, seek_on, look, call}
use Rattle.rules.specs.declared.graph.Graph.{Graph}
use Rattle.rules.specs.declared.state.State.{State}
use Rattle.std.specs.Prelude.{Ok}
use Rattle.rules.specs.declared.finding.Finding.{Finding}
use Rattle.rules.specs.declared.finding.Length.{Length}
use Rattle.rules.specs.declared.instruction.Instruction.TheVariants.{FindObstacle, Grow}
use Rattle.promises.specs.Cycle.{shown, left_on}
use Rattle.promises.specs.Ledger.{share}
use Rattle.promises.specs.Reports.{made_by}

-- "zero or more"
unfoldable pub NotBehind : Length → Type 0
NotBehind l = pos 0 ≤ℤ signed l

module _ (g : Graph) where
  pub record Careful (e : GrowthStep) : Type 0 where
    -- the state before the finding; the finding leaves the state before the step
    pub seen : State
    pub finding : Finding
    pub found : step (in_use g) seen FindObstacle ≡ record { state = e.before; answer = Ok finding }
    -- the state after the step
    pub after : State
    pub told : Finding
    pub grew : step (in_use g) e.before (Grow e.length) ≡ record { state = after; answer = Ok told }
    -- each vertex's amount is exactly what it was and its share of the step: nothing was lost at zero
    pub vertices : (v : ℕ) → v < (in_use g).nv → pos (at after.registers v).grown ≡ pos (at e.before.registers v).grown +ℤ share g v e
    -- "an edge whose ends showed different shadow nodes in the finding before that step"
    pub edges : (k : ℕ) → k < (in_use g).ne
        → same_node (shown (in_use g) seen (left_of (in_use g).edges k)).node (shown (in_use g) seen (right_of (in_use g).edges k)).node ≡ false
        → NotBehind (left_on (in_use g) e.before k) → NotBehind (left_on (in_use g) after k)

  pub data AllCareful : List GrowthStep → Type 0 where
    none : AllCareful []
    more : {e : GrowthStep} {es : List GrowthStep} → Careful e → AllCareful es → AllCareful (e ∷ es)

  -- a call that is a search makes careful steps
  abbrev pub CarefulCall : State → Call → Type 0
  CarefulCall s (seek m) = AllCareful (made_by g s (seek m))
  CarefulCall s seek_on = AllCareful (made_by g s seek_on)
  CarefulCall s (execute i) = Unit {0}
  CarefulCall s (word w) = Unit {0}
  CarefulCall s clear = Unit {0}
  CarefulCall s (look l) = Unit {0}

  -- each of these calls, on the state that the ones before leave
  abbrev pub CarefulCalls : State → List Call → Type 0
  CarefulCalls s [] = Unit {0}
  CarefulCalls s (c ∷ cs) = CarefulCall s c × CarefulCalls (call g s c).state cs
