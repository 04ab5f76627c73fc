-- Sixteen places at a vertex, which hold its edges in edge order.
use Rattle.std.specs.Prelude.{ℕ, ◌+◌, ◌*◌, ◌/◌, ◌%◌, List, map, length, get_or}
use Rattle.laws.specs.Table.{table}
use Rattle.laws.specs.Listed.{indices}
use Rattle.rules.specs.Graph.{touches, far_end}

-- what a place's word says: the edge, and its far end
abbrev pub edge_in : ℕ → ℕ
edge_in w = w % 1_024

abbrev pub far_in : ℕ → ℕ
far_in w = w / 1_024 % 256

module _ (es : List ℕ) where
  -- the edges below n that are v's, in order
  unfoldable pub touching : ℕ → ℕ → List ℕ
  touching n v = indices (touches es v) n

  -- edge e at a place of v: the edge in 10 bits, then the far end
  unfoldable pub place_word : ℕ → ℕ → ℕ
  place_word v e = e + far_end es v e * 1_024

  -- place k of v stands at v * 16 + k
  unfoldable pub place_at : ℕ → ℕ → ℕ
  place_at n p = get_or (map (place_word (p / 16)) (touching n (p / 16))) (p % 16) 0

  unfoldable pub places_of : ℕ → List ℕ
  places_of n = table 4_096 (place_at n)

  unfoldable pub degrees_of : ℕ → List ℕ
  degrees_of n = table 256 (λ v. length (touching n v))
