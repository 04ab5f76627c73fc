-- The counts and the slices written are the graph's.
use Rattle.lay.proofs.Laying.{copies}
use Rattle.std.proofs.Common.{rules}
use Rattle.lay.proofs.copy.Goals as goal

pub returns : goal.returns
returns c =
    copies c.args.graph.now c.args.table.now _ _ _ _ _ _ _ c.told-table c.copy_from_slice.ensures.after c.copy_from_slice-2.ensures.after
    c.copy_from_slice-3.ensures.after c.copy_from_slice-4.ensures.after (search rules) (search rules) (search rules) (search rules) c.min.ensures
    c.min-2.ensures c.min-3.ensures
