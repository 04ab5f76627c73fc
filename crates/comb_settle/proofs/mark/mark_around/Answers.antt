-- The places passed are all the vertex has, and over these the walk is the definition's.
use Rattle.comb_settle.proofs.Marking.{around}
use Rattle.std.proofs.Common.{rules}
use Rattle.comb_settle.proofs.mark.mark_around.Goals as goal

pub returns-after-loop-k : goal.returns-after-loop-k
returns-after-loop-k c = search (rules, around)
