-- Stage 8: the finding.
use Rattle.std.specs.Prelude.{ℕ, min, max, Bool, true, false, List}
use Rattle.laws.specs.Fold.{up_to, any_to}
use Rattle.rules.specs.Registers.{at}
use Rattle.rules.specs.Respond.{vertex_report, edge_response}
use Rattle.rules.specs.declared.finding.Length.{Length}
use Rattle.rules.specs.declared.finding.Length.TheVariants.{NoLimit, Ahead, Behind}
use Rattle.rules.specs.declared.finding.Finding.{Finding}
use Rattle.rules.specs.declared.finding.Finding.TheVariants.{GrowLength, Conflict}
use Rattle.rules.specs.Types.{Response}
use Rattle.std.specs.Prelude.{Err, Ok}

-- "the least length"
abbrev pub least : Length → Length → Length
least NoLimit m = m
least (Ahead n) NoLimit = Ahead n
least (Ahead n) (Ahead m) = Ahead (min n m)
least (Ahead n) (Behind m) = Behind m
least (Behind n) NoLimit = Behind n
least (Behind n) (Ahead m) = Behind n
least (Behind n) (Behind m) = Behind (max n m)

-- "the first Conflict by edge index, else the least length"
abbrev pub reduce : Finding → Finding → Finding
reduce (Conflict a b) f = Conflict a b
reduce (GrowLength l) (Conflict a b) = Conflict a b
reduce (GrowLength l) (GrowLength m) = GrowLength (least l m)

abbrev pub odd : Response → Bool
odd (Ok f) = false
odd (Err _) = true

abbrev pub reported : Response → Finding
reported (Ok f) = f
reported (Err _) = GrowLength NoLimit

unfoldable pub vertex_finding : List ℕ → ℕ → Finding
vertex_finding ys nv = up_to (λ v f. reduce f (vertex_report (at ys v))) (GrowLength NoLimit) nv

module _ (es fs ys ss : List ℕ) where
  -- "16 is still given when a Conflict exists"
  unfoldable pub some_odd : ℕ → Bool
  some_odd ne = any_to (λ e. odd (edge_response es fs ys ss e)) ne

  unfoldable pub finding : ℕ → ℕ → Finding
  finding ne nv = up_to (λ e f. reduce f (reported (edge_response es fs ys ss e))) (vertex_finding ys nv) ne
