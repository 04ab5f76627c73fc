-- The loop holds how many of the vertices passed grow, and the table that lists them.
use Rattle.comb_cycle.specs.Listed.{grows_at, listed}
use Rattle.laws.specs.Fold.{count_to}
use Rattle.std.proofs.Common.{◌≤◌, ◌≡◌}
use Rattle.comb_cycle.proofs.growing.list_growing.Given as goal

abbrev pub invariant-loop-v : goal.invariant-loop-v
invariant-loop-v l = (l.n ≤ l.v) × (l.n ≡ count_to (grows_at l.shadows) l.v) × (l.vertices ≡ listed (grows_at l.shadows) l.initial.vertices l.v)
