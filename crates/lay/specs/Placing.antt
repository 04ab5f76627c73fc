-- Places made in a table edge by edge, where b is the table at first, and r the table by now.
use Rattle.std.specs.Prelude.{ℕ, ◌≤◌, ◌<◌, ◌≡◌, List, length, replicate, get_or}
use Rattle.rules.specs.Graph.{edges_in_use}
use Rattle.places.specs.Ends.{reach_of}
use Rattle.places.specs.Places.{places_of, degrees_of}
use Rattle.board.specs.Board.{ne_on, edges_on, degrees_on, places_on}

-- no place is taken
pub record Cleared (b : List ℕ) : Type 0 where
  pub long : length b ≡ 8_720
  pub degrees : degrees_on b ≡ replicate 256 0
  pub places : places_on b ≡ replicate 4_096 0

-- all but degrees and places is as it was
pub record Kept (b r : List ℕ) : Type 0 where
  pub long : length r ≡ 8_720
  pub same : (j : ℕ) → (272 ≤ j → j < 528 → ⊥) → (3_600 ≤ j → j < 7_696 → ⊥) → get_or r j 0 ≡ get_or b j 0

-- the first e edges are in use, and have their places
pub record Placing (b r : List ℕ) (e reach : ℕ) : Type 0 where
  pub kept : Kept b r
  pub used : edges_in_use (edges_on b) e ≡ e
  pub degrees : degrees_on r ≡ degrees_of (edges_on b) e
  pub places : places_on r ≡ places_of (edges_on b) e
  pub reached : reach ≡ reach_of (edges_on b) e

-- and they are all that is in use
pub record PlacedAll (b r : List ℕ) (e reach : ℕ) : Type 0 where
  pub placing : Placing b r e reach
  pub all : e ≡ edges_in_use (edges_on b) (ne_on b)
  pub few : e ≤ 1_024
  pub near : reach ≤ 256
