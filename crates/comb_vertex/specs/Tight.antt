-- A vertex's tight edges by its places: ps holds the places, ds the degrees.
use Rattle.std.specs.Prelude.{ℕ, ◌≤◌, ◌<◌, ◌≡◌, Bool, List}
use Rattle.laws.specs.Fold.{count_to}
use Rattle.rules.specs.Graph.{edges_in_use}
use Rattle.rules.specs.Fetch.{counted_tight, tight_count}
use Rattle.places.specs.Places.{edge_in, places_of, degrees_of}
use Rattle.places.specs.Tie.{count_edges}
use Rattle.board.specs.Board.{edges_on, places_on, fetched_on}
use Rattle.comb_vertex.specs.Walked.{place_of, degree_of, degree_of_lem}

-- place k of v holds a counted-tight edge
unfoldable pub tight_at : List ℕ → List ℕ → List ℕ → List ℕ → ℕ → ℕ → Bool
tight_at es rs fs ps v k = counted_tight es rs fs (edge_in (place_of ps v k))

-- on the board b, by registers rs and weights ws
abbrev pub tight_on : List ℕ → List ℕ → List ℕ → ℕ → ℕ → Bool
tight_on b rs ws v = tight_at (edges_on b) rs (fetched_on b rs ws) (places_on b) v

-- over the places of the edges in use
module _ (es ps ds : List ℕ) (n m v : ℕ) (used : n ≡ edges_in_use es m) (p : ps ≡ places_of es n) (d : ds ≡ degrees_of es n) (u : v < 256) (most : m ≤ 1_024) where
  -- the number of ones is "a vertex's tight count"
  pub tight_count_lem : (rs fs : List ℕ) → count_to (tight_at es rs fs ps v) (degree_of ds v) ≡ tight_count es rs fs n v
  unfolding tight_at tight_count
  tight_count_lem rs fs = rw (degree_of_lem es ps ds n m v used p d u) (count_edges es ps ds n m v used p d u most (λ e w. counted_tight es rs fs e))
