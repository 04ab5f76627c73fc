-- With room the text is written: the line with its end.
use Rattle.std.proofs.Common.{rules}
use Rattle.listing.proofs.Whole.{new_end, new_buffer, is_eighteen}
use Rattle.listing.proofs.record_line.Goals as goal

pub returns-clause-value : goal.returns-clause-value
returns-clause-value c = rw (← is_eighteen) (new_end _ _ _ _ _ c.saturating_sub-room.ensures c.put_text.ensures.wrote c.if-room-lt-RECORD_LINE.false)

pub returns-clause-out_after : goal.returns-clause-out_after
returns-clause-out_after c =
    let h = new_buffer _ _ _ _ _ c.saturating_sub-room.ensures c.put_text.ensures.wrote c.if-room-lt-RECORD_LINE.false in
    rw (← is_eighteen) (search (rules, h))
