-- With room the head and the line's end are written.
use Rattle.std.proofs.Common.{rules}
use Rattle.listing.proofs.Puts.{◌then◌}
use Rattle.listing.proofs.Whole.{new_end, new_buffer, head_is}
use Rattle.listing.proofs.first_line.Goals as goal

pub returns-clause-value : goal.returns-clause-value
returns-clause-value c =
    let head = rw head_is at (c.put_text.ensures then c.put_numbers.ensures) in
    new_end _ _ _ _ _ c.saturating_sub-room.ensures (head then c.put_byte.ensures).wrote c.if-room-lt-LONGEST.false

pub returns-clause-out_after : goal.returns-clause-out_after
returns-clause-out_after c =
    let head = rw head_is at (c.put_text.ensures then c.put_numbers.ensures) in
    let h = new_buffer _ _ _ _ _ c.saturating_sub-room.ensures (head then c.put_byte.ensures).wrote c.if-room-lt-LONGEST.false in
    search (rules, h)
