-- Stages 7 and 8 over all edges, as one answer: 16, or the finding. start is what the vertices found.
use Rattle.std.specs.Prelude.{ℕ, List}
use Rattle.laws.specs.Choice.{pick}
use Rattle.laws.specs.Fold.{up_to}
use Rattle.rules.specs.Respond.{edge_response}
use Rattle.rules.specs.Reduce.{reduce, reported, some_odd}
use Rattle.rules.specs.declared.finding.Finding.{Finding}
use Rattle.rules.specs.Types.{Response, odd_remaining}
use Rattle.std.specs.Prelude.{Err, Ok}

module _ (es fs ys ss : List ℕ) where
  -- the finding of the first n edges
  unfoldable pub finding_to : Finding → ℕ → Finding
  finding_to start n = up_to (λ e f. reduce f (reported (edge_response es fs ys ss e))) start n

  unfoldable pub responded : ℕ → Finding → Response
  responded n start = pick (some_odd es fs ys ss n) (Err odd_remaining) (Ok (finding_to start n))
