-- An edge that has room is placed, and so are all before it.
use Rattle.lay.proofs.Wiring.{turn}
use Rattle.lay.proofs.wire.place_edges.Goals as goal

pub loop-e-preserved : goal.loop-e-preserved
loop-e-preserved c = turn _ _ _ _ _ _ _ c.put.ensures c.loop-e.invariant c.edge-edge.ensures c.has_room.ensures c.if-not-has_room.false c.reach_to-reach.ensures
