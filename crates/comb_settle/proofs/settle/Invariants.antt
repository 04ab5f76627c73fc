-- Both tables are painted vertex by vertex, and the length so far is the fold so far over the table to be. A free vertex keeps its word and bounds
-- no length.
use Rattle.comb_settle.proofs.Reporting.{SoFar}
use Rattle.comb_settle.specs.On.{updated_on, shadow_on}
use Rattle.comb_settle.proofs.settle.Given as goal

abbrev pub invariant-loop-v : goal.invariant-loop-v
invariant-loop-v l =
    let board = l.stage.board.now.table in
    let before = l.stage.before.now in
    let weights = l.stage.weights.now in
    SoFar (updated_on board before weights l.executed) (shadow_on board before weights l.executed l.stalled) l.initial.updated l.initial.shadows l.n l.v l.updated
    l.shadows l.length
