-- A turn hears the edges of one vertex more.
use Rattle.comb_cycle.proofs.Responds.{vertex_turn}
use Rattle.std.proofs.Common.{rules}
use Rattle.comb_cycle.proofs.settled.Settled.strongest.Goals as goal

pub loop-v-preserved : goal.loop-v-preserved
loop-v-preserved c = search (rules, vertex_turn)
