-- A stalled edge's number is a space and its digits; of another nothing is put.
use Rattle.std.proofs.Common.{refl, ap, length, arith}
use Rattle.laws.specs.Placed.{wrote_nothing}
use Rattle.listing.proofs.Numbers.{edge_on, edge_off}
use Rattle.listing.proofs.Puts.{puts, ◌then◌, widened}
use Rattle.listing.proofs.line.Line.put_edge.Goals as goal

pub put_byte-requires : goal.put_byte-requires
put_byte-requires c = omega (arith, ap length (edge_on c.args.e c.args.stalled c.if-stalled.true))

pub put_decimal-requires : goal.put_decimal-requires
put_decimal-requires c = rw c.from.ensures (omega (arith, c.put_byte.ensures.wrote.end, ap length (edge_on c.args.e c.args.stalled c.if-stalled.true)))

pub returns-then-stalled : goal.returns-then-stalled
returns-then-stalled c = rw (edge_on c.args.e c.args.stalled c.if-stalled.true, ← c.from.ensures) (widened (c.put_byte.ensures then c.put_decimal.ensures) (omega arith))

pub returns-else-stalled : goal.returns-else-stalled
returns-else-stalled c = rw (edge_off c.args.e c.args.stalled c.if-stalled.false) (puts refl (wrote_nothing _ _ (omega arith)) (omega arith))
