-- Whether one of the flags so far is raised.
use Rattle.std.proofs.Common.{◌≡◌, take}
use Rattle.std.specs.List.{list_any}
use Rattle.raised.proofs.is_any_raised.Given as goal

abbrev pub invariant-loop-on : goal.invariant-loop-on
invariant-loop-on l = l.raised ≡ list_any (λ on. on) (take l.on-index l.stalled)
