-- The loop holds the marks after the places passed; over all places of a vertex that propagates these are the definition's.
use Rattle.comb_settle.specs.On.{mark_along_on}
use Rattle.std.proofs.Common.{◌≤◌, ◌≡◌}
use Rattle.comb_settle.proofs.mark.mark_around.Given as goal

abbrev pub invariant-loop-k : goal.invariant-loop-k
invariant-loop-k l =
    (l.k-end ≤ 16)
    × (l.marks ≡ mark_along_on l.stage.board.now.table l.stage.before.now l.stage.weights.now l.registers.grown l.v l.initial.marks l.k)
