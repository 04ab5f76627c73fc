-- What was done so far and the chunk that is left make the whole chunk: at first all of it is left, at the end nothing is.
use Rattle.board.specs.Board.{graph_on}
use Rattle.records.specs.declared.Stop.TheVariants.{WantsBytes}
use Rattle.session.proofs.Turns.{Under}
use Rattle.std.proofs.Common.{◌≡◌, ◌*◌}
use Rattle.session.proofs.run_records.Given as goal

abbrev pub invariant-loop-kind : goal.invariant-loop-kind
invariant-loop-kind l = record {
  under : Under (graph_on l.board.table) l.fn.state l.bytes l.initial.out l.state l.used l.written l.out;
  place : l.used ≡ 5 * l.kind-index;
  goes_on : l.stop ≡ WantsBytes;
}
