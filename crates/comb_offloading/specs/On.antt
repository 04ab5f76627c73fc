-- Stage 2 on the board b, by registers rs and weights ws.
use Rattle.std.specs.Prelude.{ℕ, Bool, List}
use Rattle.rules.specs.Graph.{far_end}
use Rattle.rules.specs.Fetch.{tight, tight_count}
use Rattle.rules.specs.Units.{defect_match, virtual_match, fusion_match, holds, stalls, stalls_around}
use Rattle.rules.specs.declared.graph.OffloadingType.{OffloadingType}
use Rattle.board.specs.Board.{edges_on, units_on, places_on, ne_on, nu_on, fetched_on}
use Rattle.comb_offloading.specs.Around.{tight_other, permits_by, stalls_along, stalls_by, others_permit}
use Rattle.comb_offloading.specs.Offload.{by_unit, by_units}

module _ (b rs ws : List ℕ) where
  abbrev pub tight_on : ℕ → Bool
  tight_on = tight (edges_on b) rs (fetched_on b rs ws)

  abbrev pub tight_count_on : ℕ → ℕ
  tight_count_on = tight_count (edges_on b) rs (fetched_on b rs ws) (ne_on b)

  abbrev pub tight_other_on : ℕ → ℕ → Bool
  tight_other_on = tight_other (edges_on b) rs (fetched_on b rs ws)

  abbrev pub permits_on : ℕ → ℕ → ℕ → Bool
  permits_on e = permits_by (edges_on b) rs (fetched_on b rs ws) e (ne_on b)

  abbrev pub others_permit_on : ℕ → ℕ → Bool
  others_permit_on = others_permit (edges_on b) rs (fetched_on b rs ws) (ne_on b)

  abbrev pub defect_match_on : ℕ → Bool
  defect_match_on = defect_match (edges_on b) rs (fetched_on b rs ws) (ne_on b)

  abbrev pub virtual_match_on : ℕ → ℕ → Bool
  virtual_match_on e w = virtual_match (edges_on b) rs (fetched_on b rs ws) (ne_on b) e w (far_end (edges_on b) w e)

  abbrev pub fusion_match_on : ℕ → ℕ → Bool
  fusion_match_on e w = fusion_match (edges_on b) rs (fetched_on b rs ws) (ne_on b) e w (far_end (edges_on b) w e)

  abbrev pub holds_on : OffloadingType → Bool
  holds_on = holds (edges_on b) rs (fetched_on b rs ws) (ne_on b)

  abbrev pub stalls_by_on : ℕ → ℕ → ℕ → List Bool → List Bool
  stalls_by_on = stalls_by (edges_on b) rs (fetched_on b rs ws)

  -- from the first n places of a vertex
  abbrev pub stalls_along_on : ℕ → ℕ → List Bool → ℕ → List Bool
  stalls_along_on e = stalls_along (edges_on b) rs (fetched_on b rs ws) e (places_on b)

  abbrev pub stalls_around_on : ℕ → ℕ → List Bool → List Bool
  stalls_around_on = stalls_around (edges_on b) rs (fetched_on b rs ws) (ne_on b)

  abbrev pub stalls_on : OffloadingType → List Bool → List Bool
  stalls_on = stalls (edges_on b) rs (fetched_on b rs ws) (ne_on b)

  module _ (f : OffloadingType → List Bool → List Bool) where
    abbrev pub by_unit_on : OffloadingType → List Bool → List Bool
    by_unit_on = by_unit (edges_on b) rs (fetched_on b rs ws) (ne_on b) f

    -- by the first n units
    abbrev pub by_first_on : List Bool → ℕ → List Bool
    by_first_on = by_units (edges_on b) rs (fetched_on b rs ws) (ne_on b) f (units_on b)

    -- by all units
    abbrev pub by_units_on : List Bool → List Bool
    by_units_on flags = by_first_on flags (nu_on b)
