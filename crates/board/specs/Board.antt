-- What stands on a board, each part as a list of its own, so that the definitions and laws over a graph's tables hold of it as they are.
use Rattle.std.specs.Prelude.{ℕ, ◌+◌, ◌≤◌, ◌<◌, min, ◌≡◌, List, length, get_or, take, drop}
use Rattle.std.proofs.Common.{sym, ◌∙◌, arith, add_comm, length-take, length-drop}
use Rattle.std.proofs.lemmas.List.{ext_get_or, get_or_past, get_or-take, get_or-drop}
use Rattle.laws.specs.Table.{table, length_table, get_or_table}
use Rattle.rules.specs.Fetch.{fetched}
use Rattle.rules.specs.declared.graph.Graph.{Graph}
use Rattle.places.specs.Ends.{Ends}
use Rattle.places.specs.Wired.{Wired, degree_wired}

abbrev pub entry_at : ℕ → List ℕ → ℕ → ℕ
entry_at k b i = get_or b (i + k) 0

-- the n entries from k on
unfoldable pub part : ℕ → ℕ → List ℕ → List ℕ
part n k b = table n (entry_at k b)

pub part_at : (n k : ℕ) (b : List ℕ) (i : ℕ) → i < n → get_or b (i + k) 0 ≡ get_or (part n k b) i 0
unfolding part
part_at n k b i l = sym (get_or_table (entry_at k b) n i 0 l)

-- beyond its end a part reads 0
pub part_past : (n k : ℕ) (b : List ℕ) (i : ℕ) → n ≤ i → 0 ≡ get_or (part n k b) i 0
unfolding part
part_past n k b i h = sym (get_or_past (table n (entry_at k b)) i 0 (omega (arith, length_table (entry_at k b) n)))

pub ruleset entries = (part_at, part_past)

-- a part is a slice of its table
pub slice_part : (n k : ℕ) (b : List ℕ) → n + k ≤ length b → take n (drop k b) ≡ part n k b
unfolding part
slice_part n k b h =
    let long : length (take n (drop k b)) ≡ n = grind (arith, length-take, length-drop) in
    ext_get_or 0 _ _ (long ∙ sym (length_table (entry_at k b) n))
    (λ i l. let u : i < n = rw long at l in get_or-take n (drop k b) i 0 u ∙ get_or-drop k b i 0 ∙ rw (add_comm k i) (sym (get_or_table (entry_at k b) n i 0 u)))

module _ (b : List ℕ) where
  unfoldable pub vertices_on : List ℕ
  vertices_on = part 256 16 b

  unfoldable pub degrees_on : List ℕ
  degrees_on = part 256 272 b

  unfoldable pub edges_on : List ℕ
  edges_on = part 1_024 528 b

  unfoldable pub units_on : List ℕ
  units_on = part 2_048 1_552 b

  unfoldable pub places_on : List ℕ
  places_on = part 4_096 3_600 b

  -- the weights that a reset leaves
  unfoldable pub defaults_on : List ℕ
  defaults_on = part 1_024 7_696 b

  abbrev pub nv_on : ℕ
  nv_on = min (get_or b 0 0) 256

  abbrev pub ne_on : ℕ
  ne_on = min (get_or b 1 0) 1_024

  abbrev pub nu_on : ℕ
  nu_on = min (get_or b 2 0) 2_048

  abbrev pub reach_on : ℕ
  reach_on = min (get_or b 3 0) 256

  -- the graph, all of which is in use
  abbrev pub graph_on : Graph
  graph_on = record { nv = nv_on; ne = ne_on; nu = nu_on; vertices = vertices_on; edges = edges_on; weights = defaults_on; units = units_on }

  -- the fetch weights by registers rs and weights ws
  abbrev pub fetched_on : List ℕ → List ℕ → List ℕ
  fetched_on rs ws = fetched edges_on rs ws ne_on

-- the places are those of the edges, which end before the reach
pub record Laid (b : List ℕ) : Type 0 where
  pub wired : Wired (edges_on b) (ne_on b) (places_on b) (degrees_on b)
  pub ends : Ends (edges_on b) (ne_on b) (reach_on b)

-- no vertex has more than 16 places
pub few : (b : List ℕ) (v : ℕ) {n : ℕ} → n ≡ get_or (degrees_on b) v 0 → Laid b → v < 256 → n ≤ 16
few b v p l u = rw p (degree_wired l.wired v u)
