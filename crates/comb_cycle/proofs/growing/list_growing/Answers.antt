-- The first of the table's places hold the vertices that grow.
use Rattle.std.proofs.Common.{rules}
use Rattle.comb_cycle.specs.Listed.{grows_at}
use Rattle.comb_cycle.proofs.Listing.{lists_end}
use Rattle.comb_cycle.proofs.growing.list_growing.Goals as goal

pub returns-clause-from_start : goal.returns-clause-from_start
returns-clause-from_start c = lists_end (grows_at c.args.shadows.now) c.args.vertices.now c.loop-v.n c.args.reach (search rules) (search rules) (search rules)
