-- A number that does not fit its field is refused, and two that fit make the kind's word.
use Rattle.instruction.proofs.Bounds.{packing_as}
use Rattle.std.proofs.Common.{rules}
use Rattle.instruction.proofs.packing.pack_as.Goals as goal
use Rattle.instruction.proofs.packing.pack_as.Goals.{then-room-a-via-then-room-a, then-room-a-via-else-room-a+then-room-b}

pub returns-then-room-a : goal.returns-then-room-a
returns-then-room-a c =
    elim c.then-room-a.branch [
      | then-room-a-via-then-room-a w ↦ search (rules, packing_as)
      | then-room-a-via-else-room-a+then-room-b w ↦ search (rules, packing_as)
    ]

pub returns : goal.returns
returns c = search (rules, packing_as)
