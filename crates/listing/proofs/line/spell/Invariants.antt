-- The digits that are left and those that are put make the number: at first none is put, at the end none is left.
use Rattle.std.proofs.Common.{◌≡◌, ◌++◌, drop}
use Rattle.rules.specs.Listing.{decimal}
use Rattle.listing.proofs.Digits.{last_digits}
use Rattle.listing.proofs.line.spell.Given as goal

abbrev pub invariant-loop-i : goal.invariant-loop-i
invariant-loop-i l = last_digits l.i l.rest ++ drop l.i l.out ≡ decimal l.n
