-- One instruction: the eight stages, and the refusals 13 to 16. A word: 12 first.
use Rattle.std.specs.Prelude.{ℕ, Bool, List}
use Rattle.std.proofs.Math.Option.{Option, none, some}
use Rattle.laws.specs.Choice.{pick}
use Rattle.rules.specs.Graph.{in_use}
use Rattle.rules.specs.Fetch.{fetched}
use Rattle.rules.specs.Units.{stalled_vertices, stalled_edges}
use Rattle.rules.specs.Execute.{executed, execute_refusal}
use Rattle.rules.specs.Update.{updated}
use Rattle.rules.specs.Shadow.{shadows}
use Rattle.rules.specs.Reduce.{some_odd, finding}
use Rattle.rules.specs.State.{reset}
use Rattle.rules.specs.Words.{in_bounds, unpacked}
use Rattle.rules.specs.declared.graph.Graph.{Graph}
use Rattle.rules.specs.declared.state.State.{State}
use Rattle.rules.specs.declared.state.Cycle.{Cycle}
use Rattle.rules.specs.declared.state.WordCycle.{WordCycle}
use Rattle.rules.specs.Types.{Answer, Unpacked, WordAnswer}
use Rattle.std.specs.Prelude.{Err, Ok}
use Rattle.rules.specs.declared.finding.Carried.TheVariants as W
use Rattle.rules.specs.declared.instruction.Instruction.{Instruction}
use Rattle.rules.specs.declared.instruction.Asked.TheVariants as U
use Rattle.rules.specs.declared.refusal.Refusal.{Refusal}
use Rattle.rules.specs.declared.refusal.Refusal.TheVariants.{OutOfBounds, OddRemaining}

-- a refused instruction: "state before that instruction"
abbrev pub refused : State → Refusal → Cycle
refused s n = record { state = s; answer = Err n }

-- g is a graph that is all in use
module _ (g : Graph) where
  -- stages 1 and 2, on the registers before
  abbrev pub weights_fetched : State → List ℕ
  weights_fetched s = fetched g.edges s.registers s.weights g.ne

  abbrev pub vertices_stalled : State → List Bool
  vertices_stalled s = stalled_vertices g.edges s.registers (weights_fetched s) g.ne g.units g.nu

  abbrev pub edges_stalled : State → List Bool
  edges_stalled s = stalled_edges g.edges s.registers (weights_fetched s) g.ne g.units g.nu

  -- stages 7 and 8 on the registers ys after stage 5 and the shadows ss: 16, or the finding with all written together
  unfoldable pub concluded : State → List ℕ → List Bool → List ℕ → List ℕ → Cycle
  concluded s fs stalled ys ss =
      pick (some_odd g.edges fs ys ss g.ne) (refused s OddRemaining)
      (record {
        state = record { registers = ys; weights = s.weights; stalled = stalled; maximum = s.maximum };
        answer = Ok (finding g.edges fs ys ss g.ne g.nv);
      })

  -- stages 4 to 8 on the registers xs after stage 3
  unfoldable pub settled : State → List ℕ → Cycle
  settled s xs =
      let fs = weights_fetched s in
      let ys = updated g.edges fs xs g.ne g.nv in
      concluded s fs (edges_stalled s) ys (shadows g.vertices g.edges fs xs ys (vertices_stalled s) g.ne g.nv)

  -- "14 and 15 come before 16"
  abbrev pub carried : State → List ℕ → Option Refusal → Cycle
  carried s xs none = settled s xs
  carried s xs (some n) = refused s n

  unfoldable pub step : State → Instruction → Cycle
  step s i =
      let stalled = vertices_stalled s in
      carried s (executed g.vertices s.registers stalled i g.nv) (execute_refusal g.vertices s.registers stalled i g.nv)

  -- why an instruction is not carried out at all: "13: .. decoder as before"
  unfoldable pub barred : Instruction → Option Refusal
  barred i = pick (in_bounds i) none (some OutOfBounds)

  abbrev pub unless_barred : State → Instruction → Option Refusal → Cycle
  unless_barred s i none = step s i
  unless_barred s i (some n) = refused s n

unfoldable pub instruct : Graph → State → Instruction → Cycle
instruct g s i = unless_barred (in_use g) s i (barred (in_use g) i)

-- ---- a word

abbrev pub word_answer : Answer → WordAnswer
word_answer (Ok f) = Ok (W.Found f)
word_answer (Err n) = Err n

abbrev pub word_cycle : Cycle → WordCycle
word_cycle c = record { state = c.state; answer = word_answer c.answer }

abbrev pub carried_out : Graph → State → Unpacked → WordCycle
carried_out g s (Ok (U.Says i)) = word_cycle (instruct g s i)
carried_out g s (Ok U.Reset) = record { state = reset g s; answer = Ok W.Reset }
carried_out g s (Err n) = record { state = s; answer = Err n }

-- "12: word not carried, decoder as before"
unfoldable pub word_run : Graph → State → ℕ → WordCycle
word_run g s w = carried_out g s (unpacked w)
