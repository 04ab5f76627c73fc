-- A space, then the digits, for which ten places are left.
use Rattle.std.proofs.Common.{arith}
use Rattle.listing.proofs.Puts.{◌then◌, widened}
use Rattle.listing.proofs.Digits.{decimal_most}
use Rattle.listing.proofs.line.Line.put_number.Goals as goal

pub put_decimal-requires : goal.put_decimal-requires
put_decimal-requires c = omega (arith, decimal_most c.args.n c.ranges.n.fits, c.put_byte.ensures.wrote.end)

pub returns : goal.returns
returns c = widened (c.put_byte.ensures then c.put_decimal.ensures) (omega (arith, decimal_most c.args.n c.ranges.n.fits))
