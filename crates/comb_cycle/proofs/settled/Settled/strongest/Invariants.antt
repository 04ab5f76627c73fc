-- The loop holds the strongest of what is heard at the vertices listed so far; at those that grow every edge that is not idle is heard.
use Rattle.comb_cycle.proofs.Listing.{heard_from}
use Rattle.comb_cycle.specs.On.{stage_edges, stage_fetched, stage_ne}
use Rattle.comb_cycle.specs.Rank.{report_in}
use Rattle.comb_cycle.specs.Strongest.{strongest_of}
use Rattle.std.proofs.Common.{◌≡◌}
use Rattle.comb_cycle.proofs.settled.Settled.strongest.Given as goal

abbrev pub invariant-loop-v : goal.invariant-loop-v
invariant-loop-v l =
    let s = l.self in
    let heard = heard_from (stage_edges s.stage) (stage_fetched s.stage) s.registers.now s.shadows.now (stage_ne s.stage) l.v-items in
    report_in l.strongest ≡ strongest_of heard l.v-index
