-- What is told of the search from here on is what is told of all of it.
use Rattle.rules.specs.Search.{begun, told, walked}
use Rattle.board.specs.Board.{graph_on}
use Rattle.comb_search.proofs.Seeks.{Seeking}
use Rattle.std.proofs.Common.{suc, ◌+◌, ◌-◌, ◌≤◌}
use Rattle.comb_search.proofs.search.find_obstacle.Given as goal

abbrev pub invariant-loop-finding : goal.invariant-loop-finding
invariant-loop-finding l = record {
  seeking : Seeking (graph_on l.board.table) (told (walked (graph_on l.board.table) (suc l.maximum) (begun l.initial.state))) l.state (l.maximum - l.state.maximum) l.steps;
  few : l.steps + l.state.maximum ≤ l.maximum;
}

abbrev pub decreases-loop-finding : goal.decreases-loop-finding
decreases-loop-finding l = l.state.maximum
