-- What each arm puts, one after the other. A search that was not begun has no numbers.
use Rattle.std.proofs.Common.{arith}
use Rattle.listing.proofs.Puts.{◌then◌, widened}
use Rattle.listing.proofs.line.Line.put_search.Goals as goal

pub returns-in-Found : goal.returns-in-Found
returns-in-Found c = rw c.in-Found.is (c.put_byte.ensures then c.put_finding.ensures then c.put_tally.ensures)

pub returns-in-Stopped : goal.returns-in-Stopped
returns-in-Stopped c = rw c.in-Stopped.is (widened (c.put_refusal-in-Stopped.ensures then c.put_tally-in-Stopped.ensures) (omega arith))
