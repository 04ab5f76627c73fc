-- A blank array holds the empty list.
use Rattle.std.proofs.Common.{arith}
use Rattle.image.proofs.Lists.{blank}
use Rattle.image.proofs.units.Units.new.Goals as goal

pub invariant_of-result : goal.invariant_of-result
invariant_of-result c = (omega arith, blank 2_048)
