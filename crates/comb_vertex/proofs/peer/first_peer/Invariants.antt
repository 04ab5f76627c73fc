-- No place passed serves.
use Rattle.board.specs.Board.{edges_on, places_on, fetched_on}
use Rattle.comb_vertex.specs.Led.{served_at}
use Rattle.laws.specs.First.{first}
use Rattle.std.proofs.Common.{◌≡◌}
use Rattle.std.proofs.Math.Option.{none}
use Rattle.comb_vertex.proofs.peer.first_peer.Given as goal

abbrev pub invariant-loop-k : goal.invariant-loop-k
invariant-loop-k l =
    let b = l.fetch.table.now in
    first l.k (served_at (edges_on b) (fetched_on b l.fetch.before.now l.fetch.weights.now) l.executed (places_on b) l.v) ≡ none
