-- The mask holds the bits of the places passed.
use Rattle.comb_vertex.specs.Tight.{tight_on}
use Rattle.laws.specs.Mask.{mask_of}
use Rattle.std.proofs.Common.{◌≡◌}
use Rattle.comb_vertex.proofs.tight.tight_mask.Given as goal

abbrev pub invariant-loop-k : goal.invariant-loop-k
invariant-loop-k l = l.mask ≡ mask_of l.k (tight_on l.fetch.table.now l.fetch.before.now l.fetch.weights.now l.v)
