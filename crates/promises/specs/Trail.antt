-- A search's growth steps are the search: they chain from the state that it began with to the state that it leaves, a FindObstacle and the Grow
-- by what that found for each, none missing, and a last FindObstacle. g is a graph that is all in use.
use Rattle.std.specs.Prelude.{ℕ, ◌-◌, ◌≤◌, min, ◌≡◌, List, [], ◌∷◌, ◌++◌, map}
use Rattle.rules.specs.State.{with_maximum}
use Rattle.rules.specs.Instruct.{step}
use Rattle.rules.specs.Search.{GrowthStep, Ended, ordered}
use Rattle.rules.specs.Run.{Call, execute, run}
use Rattle.rules.specs.declared.graph.Graph.{Graph}
use Rattle.rules.specs.declared.state.State.{State}
use Rattle.rules.specs.Types.{Answer}
use Rattle.std.specs.Prelude.{Err, Ok}
use Rattle.rules.specs.declared.finding.Finding.{Finding}
use Rattle.rules.specs.declared.finding.Finding.TheVariants.{GrowLength, Conflict}
use Rattle.rules.specs.declared.finding.Length.TheVariants.{NoLimit, Ahead, Behind}
use Rattle.rules.specs.declared.instruction.Instruction.TheVariants.{FindObstacle, Grow}
use Rattle.rules.specs.declared.refusal.Refusal.{Refusal}
use Rattle.rules.specs.declared.refusal.Refusal.TheVariants.{NegativeLength}
use Rattle.promises.specs.Ledger.{ledger}

module _ (g : Graph) where
  -- one step, from the state s to the state t
  pub record Link (s : State) (e : GrowthStep) (t : State) : Type 0 where
    -- "Repeat FindObstacle": the length that it found, and the state that it left
    pub limit : ℕ
    pub found : step g s FindObstacle ≡ record { state = e.before; answer = Ok (GrowLength (Ahead limit)) }
    -- "clamp to the maximum; at 0 stop"
    pub clamped : e.length ≡ min limit e.before.maximum
    pub some : 1 ≤ e.length
    -- "else Grow and lower the maximum"
    pub after : State
    pub told : Finding
    pub grew : step g e.before (Grow e.length) ≡ record { state = after; answer = Ok told }
    pub lowered : t ≡ with_maximum (after.maximum - e.length) after

  -- from s, the last step first, to a state
  pub data Chain (s : State) : List GrowthStep → State → Type 0 where
    none : Chain s [] s
    more : {e : GrowthStep} {es : List GrowthStep} {t u : State} → Chain s es t → Link t e u → Chain s (e ∷ es) u

  -- a Grow by n that would have been the next step: "at 0 stop with length 0", or it is refused
  pub data Halts (s : State) (n : ℕ) : Answer → Type 0 where
    at_zero : n ≡ 0 → Halts s n (Ok (GrowLength (Ahead 0)))
    refused : {r : Refusal} → (step g s (Grow n)).answer ≡ Err r → Halts s n (Err r)

  -- what a search answers after its last finding, which left the state s
  abbrev pub Concludes : State → Answer → Answer → Type 0
  Concludes s (Err r) a = a ≡ Err r
  Concludes s (Ok (Conflict x y)) a = a ≡ Ok (ordered x y)
  Concludes s (Ok (GrowLength NoLimit)) a = a ≡ Ok (GrowLength NoLimit)
  Concludes s (Ok (GrowLength (Behind n))) a = a ≡ Err NegativeLength
  Concludes s (Ok (GrowLength (Ahead n))) a = Halts s (min n s.maximum) a

  pub record IsTrail (s : State) (a : Ended) : Type 0 where
    -- the state after the last step
    pub last : State
    pub chain : Chain s a.walk.trail last
    pub leaves : a.walk.state ≡ (step g last FindObstacle).state
    pub answers : Concludes (step g last FindObstacle).state (step g last FindObstacle).answer a.answer

-- ---- the same as calls

abbrev pub step_calls : List GrowthStep → List Call
step_calls [] = []
step_calls (e ∷ es) = step_calls es ++ execute FindObstacle ∷ execute (Grow e.length) ∷ []

-- the calls that a search with these steps stands for
abbrev pub search_calls : List GrowthStep → List Call
search_calls es = step_calls es ++ execute FindObstacle ∷ []

-- a step apart from the maximum that stood when it was made
abbrev pub apart : GrowthStep → GrowthStep
apart e = record { before = with_maximum 0 e.before; length = e.length }

-- u is what the calls on s leave, apart from the maximum, and the ledger notes the steps es of them
pub record Same (g : Graph) (s : State) (es : List GrowthStep) (cs : List Call) (u : State) : Type 0 where
  pub state : u ≡ with_maximum u.maximum (run g s cs)
  pub steps : map apart (ledger g s [] cs) ≡ map apart es
