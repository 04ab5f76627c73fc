-- A minus, then the digits.
use Rattle.std.proofs.Common.{rules, arith}
use Rattle.listing.proofs.Puts.{◌then◌, widened}
use Rattle.listing.proofs.Digits.{decimal_most}
use Rattle.listing.proofs.line.Line.put_length.Goals as goal

pub put_decimal-requires : goal.put_decimal-requires
put_decimal-requires c = omega (arith, decimal_most c.in-Behind.n (search rules), c.put_text-in-Behind.ensures.wrote.end)

pub returns-in-Behind : goal.returns-in-Behind
returns-in-Behind c = rw c.in-Behind.is (widened (c.put_text-in-Behind.ensures then c.put_decimal.ensures) (omega (arith, decimal_most c.in-Behind.n (search rules))))
