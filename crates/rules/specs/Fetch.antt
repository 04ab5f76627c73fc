-- Stage 1: fetch weight, tight, counted tight, tight count. rs holds the registers before the instruction.
use Rattle.std.specs.Prelude.{ℕ, ◌+◌, ◌*◌, ◌/◌, Bool, not, List, leb, ltb, get_or, replicate}
use Rattle.laws.specs.Choice.{◌and◌, pick}
use Rattle.laws.specs.Fold.{count_to}
use Rattle.laws.specs.Table.{paint}
use Rattle.rules.specs.Graph.{left_of, right_of, condition_of, touches}
use Rattle.rules.specs.Registers.{at}

module _ (es rs : List ℕ) where
  -- "its conditioned vertex is virtual"
  unfoldable pub reduced : ℕ → Bool
  reduced e = ltb (condition_of es e) 256 and (at rs (condition_of es e)).is_virtual

  -- "the edge's weight, or weight / 4 * 2 (whole division) while its conditioned vertex is virtual"
  unfoldable pub fetch_weight : List ℕ → ℕ → ℕ
  fetch_weight ws e = pick (reduced e) (get_or ws e 0 / 4 * 2) (get_or ws e 0)

  unfoldable pub fetched : List ℕ → ℕ → List ℕ
  fetched ws ne = paint ne (fetch_weight ws) (replicate 1_024 0)

  -- fs holds the fetch weights
  module _ (fs : List ℕ) where
    -- "the two grown amounts add to at least it"
    unfoldable pub tight : ℕ → Bool
    tight e = leb (get_or fs e 0) ((at rs (left_of es e)).grown + (at rs (right_of es e)).grown)

    -- "tight, and no condition on a virtual vertex"
    unfoldable pub counted_tight : ℕ → Bool
    counted_tight e = not (reduced e) and tight e

    -- "A vertex's tight count is over its edges"
    unfoldable pub tight_count : ℕ → ℕ → ℕ
    tight_count ne v = count_to (λ e. touches es v e and counted_tight e) ne
