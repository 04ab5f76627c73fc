-- The part of the buffer behind the position is the number.
use Rattle.std.proofs.Common.{refl, arith}
use Rattle.listing.proofs.Puts.{puts, copied_over}
use Rattle.listing.proofs.line.Line.put_decimal.Goals as goal

pub returns : goal.returns
returns c = puts refl (copied_over c.spell.ensures (omega arith) (omega arith) (omega arith)) (omega arith)
