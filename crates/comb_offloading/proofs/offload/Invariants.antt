-- The loop holds the flags after the units passed.
use Rattle.comb_offloading.specs.Offload.{stalls_edge}
use Rattle.comb_offloading.specs.On.{stalls_on, by_first_on}
use Rattle.std.proofs.Common.{◌≡◌}
use Rattle.comb_offloading.proofs.offload.Given as goal

abbrev pub invariant-loop-k : goal.invariant-loop-k
invariant-loop-k l =
    let board = l.stage.board.now.table in
    let before = l.stage.before.now in
    let weights = l.stage.weights.now in
    (l.vertices ≡ by_first_on board before weights (stalls_on board before weights) l.initial.vertices l.k)
    × (l.stalled ≡ by_first_on board before weights stalls_edge l.initial.stalled l.k)
