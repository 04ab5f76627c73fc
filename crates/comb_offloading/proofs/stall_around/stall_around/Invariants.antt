-- The loop holds the flags after the places passed; over all places these are the definition's.
use Rattle.comb_offloading.specs.On.{stalls_along_on}
use Rattle.std.proofs.Common.{◌≤◌, ◌≡◌}
use Rattle.comb_offloading.proofs.stall_around.stall_around.Given as goal

abbrev pub invariant-loop-k : goal.invariant-loop-k
invariant-loop-k l =
    (l.n ≤ 16)
    × (l.vertices ≡ stalls_along_on l.stage.board.now.table l.stage.before.now l.stage.weights.now l.edge.number l.regular l.initial.vertices l.k)
