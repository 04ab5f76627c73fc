-- The loop holds the strongest of the first report and those of the places passed; over all places these are the vertex's edges.
use Rattle.board.specs.Board.{places_on}
use Rattle.comb_cycle.proofs.Covered.{place_report}
use Rattle.comb_cycle.specs.On.{stage_edges, stage_fetched}
use Rattle.comb_cycle.specs.Rank.{report_in}
use Rattle.comb_cycle.specs.Strongest.{stronger, strongest_of}
use Rattle.std.proofs.Common.{◌≡◌}
use Rattle.comb_cycle.proofs.settled.Settled.strongest_at.Given as goal

abbrev pub invariant-loop-k : goal.invariant-loop-k
invariant-loop-k l =
    let s = l.self in
    let heard = place_report (stage_edges s.stage) (stage_fetched s.stage) s.registers.now s.shadows.now (places_on s.stage.board.now.table) l.v in
    report_in l.strongest ≡ stronger (report_in l.start) (strongest_of heard l.k)
