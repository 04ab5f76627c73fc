-- Stages 4 to 6 on the board b, by the registers rs before the instruction, the weights ws and the registers xs after stage 3.
use Rattle.std.specs.Prelude.{ℕ, Bool, List}
use Rattle.board.specs.Board.{vertices_on, edges_on, places_on, degrees_on, ne_on, reach_on, fetched_on}
use Rattle.comb_settle.specs.Marked.{mark_far, mark_along, mark_around, marked, Marks}
use Rattle.comb_settle.specs.Settled.{updated_word, shadow_word}

module _ (b rs ws : List ℕ) where
  abbrev pub mark_far_on : ℕ → ℕ → ℕ → List Bool → List Bool
  mark_far_on = mark_far (fetched_on b rs ws)

  -- by the first n places of a vertex, for a vertex that has grown g
  abbrev pub mark_along_on : ℕ → ℕ → List Bool → ℕ → List Bool
  mark_along_on g = mark_along (fetched_on b rs ws) g (places_on b)

  module _ (xs : List ℕ) where
    abbrev pub mark_around_on : ℕ → List Bool → List Bool
    mark_around_on = mark_around (edges_on b) (fetched_on b rs ws) xs (ne_on b)

    -- by the first n vertices
    abbrev pub marked_to_on : ℕ → List Bool
    marked_to_on = marked (edges_on b) (fetched_on b rs ws) xs (ne_on b)

    abbrev pub marked_on : List Bool
    marked_on = marked_to_on (reach_on b)

    abbrev pub MarksOn : List Bool → Type 0
    MarksOn marks = Marks (edges_on b) (fetched_on b rs ws) xs (places_on b) (degrees_on b) marks

    abbrev pub updated_on : ℕ → ℕ
    updated_on = updated_word (edges_on b) (fetched_on b rs ws) xs (places_on b) (degrees_on b)

    abbrev pub shadow_on : List Bool → ℕ → ℕ
    shadow_on = shadow_word (vertices_on b) (edges_on b) (fetched_on b rs ws) xs (places_on b) (degrees_on b)
