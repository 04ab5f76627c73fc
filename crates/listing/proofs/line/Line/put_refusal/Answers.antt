-- The letter, then the number.
use Rattle.listing.proofs.Puts.{◌then◌}
use Rattle.listing.proofs.line.Line.put_refusal.Goals as goal

pub returns : goal.returns
returns c = rw (← c.refusal_number.ensures, ← c.from.ensures) (c.put_byte.ensures then c.put_number.ensures)
