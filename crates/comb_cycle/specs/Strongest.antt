-- Stages 7 and 8 in any order: each edge has a report, and the strongest one decides. `stronger` minds neither the order of the edges nor that
-- one is met twice (proofs/Strengths.antt).
use Rattle.std.specs.Prelude.{ℕ, ◌+◌, min, List, get_or}
use Rattle.laws.specs.Choice.{pick}
use Rattle.laws.specs.Semilattice.{joined}
use Rattle.rules.specs.Graph.{touches}
use Rattle.rules.specs.Registers.{at}
use Rattle.rules.specs.Reduce.{least, reduce}
use Rattle.rules.specs.Respond.{less, respond, edge_response}
use Rattle.rules.specs.declared.finding.Length.TheVariants.{NoLimit}
use Rattle.rules.specs.declared.finding.Finding.{Finding}
use Rattle.rules.specs.declared.finding.Finding.TheVariants.{GrowLength, Conflict}
use Rattle.rules.specs.Types.{Response, odd_remaining}
use Rattle.std.specs.Prelude.{Err, Ok}
use Rattle.comb_cycle.specs.declared.report.Report.{Report}
use Rattle.comb_cycle.specs.declared.report.Report.TheVariants.{Odd, Conflict as ConflictAt, Length as LengthOf}

-- no limit is the weakest of all
abbrev pub silent : Report
silent = LengthOf NoLimit

-- "16 is still given when a Conflict exists"; "the first Conflict by edge index, else the least length"
abbrev pub stronger : Report → Report → Report
stronger Odd b = Odd
stronger (ConflictAt e) Odd = Odd
stronger (ConflictAt e) (ConflictAt f) = ConflictAt (record { 0 = min e.0 f.0 })
stronger (ConflictAt e) (LengthOf m) = ConflictAt e
stronger (LengthOf l) Odd = Odd
stronger (LengthOf l) (ConflictAt f) = ConflictAt f
stronger (LengthOf l) (LengthOf m) = LengthOf (least l m)

-- the strongest of the first n of a row
unfoldable pub strongest_of : (ℕ → Report) → ℕ → Report
strongest_of f n = joined stronger silent f n

-- what edge e reports with a response
abbrev pub report_of : ℕ → Response → Report
report_of e (Ok (GrowLength l)) = LengthOf l
report_of e (Ok (Conflict a b)) = ConflictAt (record { 0 = e })
report_of e (Err _) = Odd

module _ (fs ys ss : List ℕ) where
  -- what is heard at v of edge e, whose far end is w
  unfoldable pub report_from : ℕ → ℕ → ℕ → Report
  report_from v e w = report_of e (respond (at ss v) (at ss w) v w (less (get_or fs e 0) ((at ys v).grown + (at ys w).grown)))

module _ (es fs ys ss : List ℕ) where
  unfoldable pub report : ℕ → Report
  report e = report_of e (edge_response es fs ys ss e)

  -- of the first n edges
  unfoldable pub strongest : ℕ → Report
  strongest n = strongest_of report n

  -- of those of them that are v's
  unfoldable pub strongest_at : ℕ → ℕ → Report
  strongest_at n v = strongest_of (λ e. pick (touches es v e) (report e) silent) n

  -- what a report says
  abbrev pub answer : Report → Response
  answer Odd = Err odd_remaining
  answer (ConflictAt e) = edge_response es fs ys ss e.0
  answer (LengthOf l) = Ok (GrowLength l)

-- a response, with what was found before
abbrev pub reduced_with : Finding → Response → Response
reduced_with start (Ok f) = Ok (reduce start f)
reduced_with start (Err _) = Err odd_remaining
