-- Stages 1 and 7 of one edge, by its own words: w is its entry in the graph (rules/specs/Graph.antt says what it holds), f its fetch weight.
-- Tables.antt ties each to the definition over the tables.
use Rattle.std.specs.Prelude.{ℕ, ◌+◌, ◌*◌, ◌/◌, ◌%◌, Bool, not, List, leb, ltb, eqb}
use Rattle.laws.specs.Choice.{◌and◌, ◌or◌, pick}
use Rattle.rules.specs.Registers.{at, same_node}
use Rattle.rules.specs.Respond.{less, joint, meeting}
use Rattle.rules.specs.declared.finding.Length.{Length}
use Rattle.rules.specs.Types.{Response}

module _ (w : ℕ) where
  -- the end that is not v
  unfoldable pub far_end_by : ℕ → ℕ
  far_end_by v = pick (eqb (w % 256) v) (w / 256 % 256) (w % 256)

  module _ (rs : List ℕ) where
    unfoldable pub reduced_by : Bool
    reduced_by = ltb (w / 65_536) 256 and (at rs (w / 65_536)).is_virtual

    unfoldable pub weight_by : ℕ → ℕ
    weight_by weight = pick reduced_by (weight / 4 * 2) weight

    -- the two grown amounts added
    unfoldable pub grown_by : ℕ
    grown_by = (at rs (w % 256)).grown + (at rs (w / 256 % 256)).grown

    unfoldable pub tight_by : ℕ → Bool
    tight_by f = leb f grown_by

    unfoldable pub counted_tight_by : ℕ → Bool
    counted_tight_by f = not reduced_by and tight_by f

    unfoldable pub remaining_by : ℕ → Length
    remaining_by f = less f grown_by

    unfoldable pub meeting_by : List ℕ → ℕ → Response
    meeting_by ss f = meeting (at ss (w % 256)) (at ss (w / 256 % 256)) (w % 256) (w / 256 % 256) (remaining_by f)

  -- "equal shadow nodes, or joint speed not positive"
  unfoldable pub idle_by : List ℕ → Bool
  idle_by ss =
      same_node (at ss (w % 256)).node (at ss (w / 256 % 256)).node or eqb (joint (at ss (w % 256)).speed (at ss (w / 256 % 256)).speed) 0
