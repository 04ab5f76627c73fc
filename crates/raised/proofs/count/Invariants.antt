-- What is added up so far are the bits of the flags so far.
use Rattle.std.proofs.Common.{◌≤◌, ◌≡◌, take, sum_by}
use Rattle.laws.specs.Fold.{bit}
use Rattle.raised.proofs.count.Given as goal

abbrev pub invariant-loop-on : goal.invariant-loop-on
invariant-loop-on l = (l.n ≤ l.on-index) × (l.n ≡ sum_by bit (take l.on-index l.stalled))
