-- A letter, then what it tells, one after the other.
use Rattle.std.proofs.Common.{arith}
use Rattle.listing.proofs.Puts.{◌then◌, widened}
use Rattle.listing.proofs.line.Line.put_finding.Goals as goal

pub returns-in-GrowLength : goal.returns-in-GrowLength
returns-in-GrowLength c = rw c.in-GrowLength.is (widened (c.put_text.ensures then c.put_length.ensures) (omega arith))

pub returns-in-Conflict : goal.returns-in-Conflict
returns-in-Conflict c =
    rw (c.in-Conflict.is, ← c.from.ensures, ← c.from-in-Conflict.ensures) (
    c.put_text-in-Conflict.ensures
    then c.put_node.ensures
    then c.put_node-in-Conflict.ensures
    then c.put_node-in-Conflict-2.ensures
    then c.put_node-in-Conflict-3.ensures
    then c.put_number.ensures
    then c.put_number-in-Conflict.ensures
    )
