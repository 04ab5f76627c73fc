-- The pairs below e are written; on the way to the next one no edge is stalled.
use Rattle.laws.specs.Placed.{Wrote}
use Rattle.raised.specs.Below.{pairs_below}
use Rattle.std.proofs.Common.{◌-◌, ◌≡◌, length}
use Rattle.comb_lent.proofs.pairs.put_pairs.Given as goal

abbrev pub invariant-loop-written : goal.invariant-loop-written
invariant-loop-written l = Wrote (pairs_below l.stalled l.e) 0 l.initial.buffer l.written l.buffer

abbrev pub invariant-loop-e : goal.invariant-loop-e
invariant-loop-e l = pairs_below l.stalled l.e ≡ pairs_below l.stalled l.initial.e

abbrev pub decreases-loop-e : goal.decreases-loop-e
decreases-loop-e l = length l.stalled - l.e
