-- A report as one number, its rank: of two reports the stronger has the lesser rank (proofs/Ranks.antt). Odd stands first, then the conflicts by
-- edge index, 16 bits, then the lengths from the furthest behind to the furthest ahead, 32 bits each, and no limit. Every number is a rank, so
-- that the law needs no bound.
use Rattle.std.specs.Prelude.{ℕ, ◌-◌, ltb}
use Rattle.laws.specs.Choice.{pick}
use Rattle.rules.specs.declared.finding.Length.TheVariants.{Ahead, Behind}
use Rattle.comb_cycle.specs.Strongest.{silent}
use Rattle.comb_cycle.specs.declared.report.Report.{Report}
use Rattle.comb_cycle.specs.declared.report.Report.TheVariants.{Odd, Conflict, Length}

unfoldable pub report_in : ℕ → Report
report_in r =
    pick (ltb r 4_294_901_760) Odd
    (pick (ltb r 4_294_967_296) (Conflict (record { 0 = r - 4_294_901_760 }))
    (pick (ltb r 8_589_934_592) (Length (Behind (8_589_934_591 - r)))
    (pick (ltb r 12_884_901_888) (Length (Ahead (r - 8_589_934_592))) silent)))
