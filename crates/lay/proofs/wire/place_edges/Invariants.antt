-- The loop holds the places of the edges passed, which are all in use.
use Rattle.lay.specs.Placing.{Placing}
use Rattle.lay.proofs.wire.place_edges.Given as goal

abbrev pub invariant-loop-e : goal.invariant-loop-e
invariant-loop-e l = Placing l.initial.table l.table l.e l.reach
