-- Fresh registers, the default weights and no stalled edge.
use Rattle.comb.proofs.Whole.{fresh_made}
use Rattle.std.proofs.Common.{rules}
use Rattle.comb.proofs.fresh_state.Goals as goal

pub returns : goal.returns
returns c = search (rules, fresh_made)
