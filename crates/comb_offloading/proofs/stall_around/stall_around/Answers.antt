-- The places passed are all the vertex has, and over these the walk is the definition's.
use Rattle.comb_offloading.proofs.Turns.{stalling}
use Rattle.std.proofs.Common.{rules}
use Rattle.comb_offloading.proofs.stall_around.stall_around.Goals as goal

pub returns : goal.returns
returns c = search (rules, stalling)
