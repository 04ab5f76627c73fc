-- Over all places the reports are those of the vertex's edges.
use Rattle.comb_cycle.proofs.Responds.{places_end}
use Rattle.std.proofs.Common.{rules}
use Rattle.comb_cycle.proofs.settled.Settled.strongest_at.Goals as goal

pub returns : goal.returns
returns c = search (rules, places_end)
