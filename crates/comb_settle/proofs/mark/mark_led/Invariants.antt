-- The loop holds the marks of the vertices passed, in the end of all below the reach.
use Rattle.comb_settle.specs.On.{marked_to_on}
use Rattle.std.proofs.Common.{◌≡◌}
use Rattle.comb_settle.proofs.mark.mark_led.Given as goal

abbrev pub invariant-loop-v : goal.invariant-loop-v
invariant-loop-v l = l.marks ≡ marked_to_on l.stage.board.now.table l.stage.before.now l.stage.weights.now l.executed l.v
