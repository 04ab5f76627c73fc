-- Stages 2 and 3 on a stage's tables, and stages 7 and 8 on settled ones.
use Rattle.std.specs.Prelude.{ℕ, Bool, List, Result}
use Rattle.rules.specs.Types.{Response}
use Rattle.rules.specs.Units.{stalled_vertices, stalled_edges}
use Rattle.rules.specs.Respond.{edge_response}
use Rattle.rules.specs.declared.finding.Finding.{Finding}
use Rattle.rules.specs.declared.instruction.Instruction.{Instruction}
use Rattle.rules.specs.declared.refusal.Refusal.{Refusal}
use Rattle.board.specs.Board.{vertices_on, edges_on, units_on, nv_on, ne_on, nu_on, fetched_on}
use Rattle.comb_edge.specs.declared.stage.Stage.{Stage}
use Rattle.comb_cycle.specs.Responses.{responded}
use Rattle.comb_cycle.specs.Stages.{Ran}
use Rattle.comb_cycle.specs.Strongest as S
use Rattle.comb_cycle.specs.declared.report.Report.{Report}
use Rattle.comb_cycle.specs.declared.settled.Settled.{Settled}

module _ (s : Stage) where
  abbrev pub stage_edges : List ℕ
  stage_edges = edges_on s.board.now.table

  abbrev pub stage_fetched : List ℕ
  stage_fetched = fetched_on s.board.now.table s.before.now s.weights.now

  abbrev pub stage_ne : ℕ
  stage_ne = ne_on s.board.now.table

  abbrev pub stalled_vertices_on : List Bool
  stalled_vertices_on = stalled_vertices stage_edges s.before.now stage_fetched stage_ne (units_on s.board.now.table) (nu_on s.board.now.table)

  abbrev pub stalled_edges_on : List Bool
  stalled_edges_on = stalled_edges stage_edges s.before.now stage_fetched stage_ne (units_on s.board.now.table) (nu_on s.board.now.table)

  abbrev pub RanOn : List Bool → Instruction → Result Unit Refusal → List ℕ → Type 0
  RanOn stalled i r xs = Ran (vertices_on s.board.now.table) s.before.now stalled i (nv_on s.board.now.table) r xs

module _ (s : Settled) where
  abbrev es : List ℕ
  es = stage_edges s.stage

  abbrev fs : List ℕ
  fs = stage_fetched s.stage

  abbrev ne : ℕ
  ne = stage_ne s.stage

  abbrev pub report_from_on : ℕ → ℕ → ℕ → Report
  report_from_on = S.report_from fs s.registers.now s.shadows.now

  abbrev pub edge_response_on : ℕ → Response
  edge_response_on = edge_response es fs s.registers.now s.shadows.now

  abbrev pub strongest_on : Report
  strongest_on = S.strongest es fs s.registers.now s.shadows.now ne

  abbrev pub strongest_at_on : ℕ → Report
  strongest_at_on = S.strongest_at es fs s.registers.now s.shadows.now ne

  abbrev pub responded_on : Finding → Response
  responded_on = responded es fs s.registers.now s.shadows.now ne
