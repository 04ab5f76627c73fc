-- The tables of one cycle by name, as the promises speak of them: g is a graph that is all in use, s the state before the instruction i.
use Rattle.std.specs.Prelude.{ℕ, List}
use Rattle.rules.specs.Registers.{at}
use Rattle.rules.specs.Execute.{executed}
use Rattle.rules.specs.Update.{updated}
use Rattle.rules.specs.Shadow.{shadows}
use Rattle.rules.specs.Respond.{remaining}
use Rattle.rules.specs.Instruct.{weights_fetched, vertices_stalled}
use Rattle.rules.specs.declared.graph.Graph.{Graph}
use Rattle.rules.specs.declared.state.State.{State}
use Rattle.rules.specs.declared.finding.Length.{Length}
use Rattle.rules.specs.declared.instruction.Instruction.{Instruction}
use Rattle.rules.specs.declared.instruction.Instruction.TheVariants.{FindObstacle}
use Rattle.rules.specs.declared.registers.VertexRegisters.{VertexRegisters}

module _ (g : Graph) (s : State) where
  module _ (i : Instruction) where
    -- after stages 3 and 5, and the shadows of stage 6
    abbrev pub after_execute : List ℕ
    after_execute = executed g.vertices s.registers (vertices_stalled g s) i g.nv

    abbrev pub after_update : List ℕ
    after_update = updated g.edges (weights_fetched g s) after_execute g.ne g.nv

    abbrev pub shadows_seen : List ℕ
    shadows_seen = shadows g.vertices g.edges (weights_fetched g s) after_execute after_update (vertices_stalled g s) g.ne g.nv

  -- what a FindObstacle on s shows of v
  abbrev pub shown : ℕ → VertexRegisters
  shown v = at (shadows_seen FindObstacle) v

  -- what remains on edge e: its fetch weight less the grown amounts
  unfoldable pub left_on : ℕ → Length
  left_on e = remaining g.edges (weights_fetched g s) s.registers e
