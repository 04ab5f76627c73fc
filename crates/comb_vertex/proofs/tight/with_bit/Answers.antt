-- The bit stands above the mask, so that setting it adds it.
use Rattle.std.proofs.Common.{shl_exact, lit<, arith, rules}
use lib.Bits.{or_shifted_r}
use Rattle.comb_vertex.proofs.tight.with_bit.Goals as goal

pub returns-then-on : goal.returns-then-on
returns-then-on c = simp (c.if-on.true, shl_exact {a = 1} 1 c.args.k 16 (lit< tt) (omega arith)) (or_shifted_r 1 c.args.k c.args.mask c.requires.1)

pub returns-else-on : goal.returns-else-on
returns-else-on c = simp c.if-on.false (omega arith)

pub overflow_shl-result : goal.overflow_shl-result
overflow_shl-result c = search rules
