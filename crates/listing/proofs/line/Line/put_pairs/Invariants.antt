-- The stalled edges below e are met, and put.
use Rattle.std.proofs.Common.{◌≡◌, length}
use Rattle.rules.specs.Listing.{numbers}
use Rattle.raised.specs.Below.{pairs_below}
use Rattle.listing.specs.Written.{Puts}
use Rattle.listing.proofs.line.Line.put_pairs.Given as goal

abbrev pub invariant-loop-e : goal.invariant-loop-e
invariant-loop-e l = record {
  met : l.met ≡ length (pairs_below l.stalled l.e);
  put : Puts (length (numbers (pairs_below l.stalled l.e))) (numbers (pairs_below l.stalled l.e)) l.initial.self l.self;
}
