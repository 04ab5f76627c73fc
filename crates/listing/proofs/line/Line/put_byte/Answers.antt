-- A store at the position is the byte put there.
use Rattle.std.proofs.Common.{refl, arith}
use Rattle.laws.specs.Placed.{wrote_one}
use Rattle.listing.proofs.Puts.{puts}
use Rattle.listing.proofs.line.Line.put_byte.Goals as goal

pub returns : goal.returns
returns c = puts refl (wrote_one _ _ _ (omega arith)) (omega arith)
