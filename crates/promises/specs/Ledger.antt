-- Demand 3's sums: the growth steps of a run since its last reset, and what each is to a vertex. They are read off the run, not off stored
-- totals.
use Rattle.std.specs.Prelude.{ℕ, ◌+◌, Bool, false, List, [], ◌∷◌, ◌++◌, ltb, ℤ, pos, ◌+ℤ◌, ◌*ℤ◌, get_or}
use Rattle.laws.specs.Choice.{◌and◌, ◌or◌, pick}
use Rattle.rules.specs.Graph.{has_layer, in_use}
use Rattle.rules.specs.Numbers.{speed}
use Rattle.rules.specs.Registers.{at}
use Rattle.rules.specs.State.{with_maximum}
use Rattle.rules.specs.Instruct.{instruct, vertices_stalled}
use Rattle.rules.specs.Search.{GrowthStep, search}
use Rattle.rules.specs.Words.{unpacked}
use Rattle.rules.specs.Run.{Call, execute, word, clear, seek, seek_on, look, call}
use Rattle.rules.specs.declared.graph.Graph.{Graph}
use Rattle.rules.specs.declared.state.State.{State}
use Rattle.rules.specs.Types.{Answer, Unpacked}
use Rattle.std.specs.Prelude.{Err, Ok}
use Rattle.rules.specs.declared.instruction.CompactGrowState.{CompactGrowState}
use Rattle.rules.specs.declared.instruction.Instruction.{Instruction}
use Rattle.rules.specs.declared.instruction.Instruction.TheVariants.{SetSpeed, SetBlossom, AddDefectVertex, FindObstacle, Grow as GrowBy, LoadDefectsExternal}
use Rattle.rules.specs.declared.instruction.Asked.TheVariants as U

-- "length times the speed"
unfoldable pub times : CompactGrowState → ℕ → ℤ
times s n = pos n *ℤ speed s

-- the lengths of the steps, added
unfoldable pub sum : List GrowthStep → ℕ
sum [] = 0
sum (e ∷ es) = sum es + e.length

-- the growth step that an instruction on s is, once it is completed
abbrev pub grows : State → Instruction → List GrowthStep
grows s (SetSpeed n x) = []
grows s (SetBlossom n b) = []
grows s (AddDefectVertex v n) = []
grows s FindObstacle = []
grows s (GrowBy l) = record { before = s; length = l } ∷ []
grows s (LoadDefectsExternal t) = []

-- "A growth step is a completed Grow"
abbrev pub if_done : List GrowthStep → Answer → List GrowthStep
if_done es (Ok f) = es
if_done es (Err r) = []

module _ (g : Graph) where
  unfoldable pub was_stalled : State → ℕ → Bool
  was_stalled s v = get_or (vertices_stalled (in_use g) s) v false

  unfoldable pub was_waiting : State → ℕ → Bool
  was_waiting s v = has_layer g.vertices v and (at s.registers v).is_virtual

  -- "of length times the speed it held before that step, leaving out steps where it was stalled or waiting for its layer"
  unfoldable pub share : ℕ → GrowthStep → ℤ
  share v e =
      pick (was_stalled e.before v or was_waiting e.before v) (pos 0)
      (times (at e.before.registers v).speed e.length)

  unfoldable pub total : ℕ → List GrowthStep → ℤ
  total v [] = pos 0
  total v (e ∷ es) = total v es +ℤ share v e

  -- ---- the growth steps that a call adds, the last one first

  unfoldable pub of_instruction : State → Instruction → List GrowthStep
  of_instruction s i = if_done (grows s i) (instruct g s i).answer

  -- the steps since the last reset, where es were those before the call
  abbrev pub after_word : State → List GrowthStep → Unpacked → List GrowthStep
  after_word s es (Ok (U.Says i)) = of_instruction s i ++ es
  after_word s es (Ok U.Reset) = []
  after_word s es (Err r) = es

  unfoldable pub noted : State → List GrowthStep → Call → List GrowthStep
  noted s es (execute i) = of_instruction s i ++ es
  noted s es (word w) = after_word s es (unpacked w)
  noted s es clear = []
  noted s es (seek m) = pick (ltb m 2_147_483_648) ((search g (with_maximum m s)).walk.trail ++ es) es
  noted s es seek_on = (search g s).walk.trail ++ es
  noted s es (look l) = es

  unfoldable pub ledger : State → List GrowthStep → List Call → List GrowthStep
  ledger s es [] = es
  ledger s es (c ∷ cs) = ledger (call g s c).state (noted s es c) cs
