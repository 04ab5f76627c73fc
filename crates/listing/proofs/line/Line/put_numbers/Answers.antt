-- The numbers so far and one more.
use Rattle.std.proofs.Common.{refl, arith}
use Rattle.laws.specs.Placed.{wrote_nothing}
use Rattle.listing.proofs.Puts.{puts, ◌then◌, widened}
use Rattle.listing.proofs.Numbers.{more_taken}
use Rattle.listing.proofs.line.Line.put_numbers.Goals as goal

pub loop-n-init : goal.loop-n-init
loop-n-init c = puts refl (wrote_nothing _ _ (omega arith)) (omega arith)

pub loop-n-preserved : goal.loop-n-preserved
loop-n-preserved c = rw (more_taken _ _ c.loop-n-test.true) (widened (c.loop-n.invariant then c.put_number.ensures) (omega arith))
