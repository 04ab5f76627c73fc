-- Every field but the length of Grow is at most 16 bits wide.
use Rattle.instruction.proofs.Unpacking.{reading}
use Rattle.std.proofs.Common.{rules}
use Rattle.instruction.proofs.reading.unpack.Goals as goal

pub asked-requires : goal.asked-requires
asked-requires c = search (rules, reading)
