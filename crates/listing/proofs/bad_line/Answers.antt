-- With room the text and the line's end are written.
use Rattle.std.proofs.Common.{rules}
use Rattle.listing.proofs.Puts.{◌then◌}
use Rattle.listing.proofs.Whole.{new_end, new_buffer}
use Rattle.listing.proofs.bad_line.Goals as goal

pub returns-clause-value : goal.returns-clause-value
returns-clause-value c =
    rw (← c.refusal_number.ensures, ← c.from.ensures)
    (new_end _ _ _ _ _ c.saturating_sub-room.ensures (c.put_text.ensures then c.put_number.ensures then c.put_byte.ensures).wrote c.if-room-lt-LONGEST.false)

pub returns-clause-out_after : goal.returns-clause-out_after
returns-clause-out_after c =
    let h = new_buffer _ _ _ _ _ c.saturating_sub-room.ensures (c.put_text.ensures then c.put_number.ensures then c.put_byte.ensures).wrote c.if-room-lt-LONGEST.false in
    rw (← c.refusal_number.ensures, ← c.from.ensures) (search (rules, h))
