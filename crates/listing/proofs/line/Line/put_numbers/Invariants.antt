-- The numbers so far stand behind what the line had.
use Rattle.std.proofs.Common.{◌*◌, take}
use Rattle.rules.specs.Listing.{numbers}
use Rattle.listing.specs.Written.{Puts}
use Rattle.listing.proofs.line.Line.put_numbers.Given as goal

abbrev pub invariant-loop-n : goal.invariant-loop-n
invariant-loop-n l = Puts (11 * l.n-index) (numbers (take l.n-index l.ns)) l.initial.self l.self
