-- The vertices passed were all done, and their words are written.
use Rattle.board.specs.Board.{vertices_on}
use Rattle.comb_vertex.specs.Execution.{executed_word, executed_count}
use Rattle.laws.specs.Table.{paint}
use Rattle.rules.specs.Execute.{execute_refusal}
use Rattle.std.proofs.Common.{◌≡◌}
use Rattle.std.proofs.Math.Option.{none}
use Rattle.comb_vertex.proofs.execute.execute.Given as goal

abbrev pub invariant-loop-v : goal.invariant-loop-v
invariant-loop-v l = record {
  written : l.out ≡ paint l.v (executed_word (vertices_on l.board.table) l.registers l.stalled l.instruction) l.initial.out;
  counted : executed_count (vertices_on l.board.table) l.registers l.stalled l.instruction l.v ≡ l.v;
  none_refused : execute_refusal (vertices_on l.board.table) l.registers l.stalled l.instruction l.v ≡ none;
}
