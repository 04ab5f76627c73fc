-- What the entries of a graph's tables say, and how much of a graph is in use.
use Rattle.std.specs.Prelude.{ℕ, suc, ◌/◌, ◌%◌, min, Bool, not, List, eqb, ltb, get_or}
use Rattle.laws.specs.Choice.{◌and◌, ◌or◌, pick}
use Rattle.laws.specs.Fold.{up_to, count_to}
use Rattle.rules.specs.declared.graph.Graph.{Graph}
use Rattle.rules.specs.declared.graph.OffloadingType.{OffloadingType}
use Rattle.rules.specs.declared.graph.OffloadingType.TheVariants.{DefectMatch, VirtualMatch, FusionMatch}

-- ---- vertices: the layer in 16 bits, over 32,767 for none, then the default virtual bit

module _ (vs : List ℕ) where
  unfoldable pub layer_of : ℕ → ℕ
  layer_of v = get_or vs v 0 % 65_536

  unfoldable pub has_layer : ℕ → Bool
  has_layer v = ltb (layer_of v) 32_768

  unfoldable pub is_default_virtual : ℕ → Bool
  is_default_virtual v = eqb (get_or vs v 0 / 65_536 % 2) 1

-- ---- edges: the left end in 8 bits, the right end in 8, then the conditioned vertex, over 255 for none

module _ (es : List ℕ) where
  unfoldable pub left_of : ℕ → ℕ
  left_of e = get_or es e 0 % 256

  unfoldable pub right_of : ℕ → ℕ
  right_of e = get_or es e 0 / 256 % 256

  unfoldable pub condition_of : ℕ → ℕ
  condition_of e = get_or es e 0 / 65_536

  -- edge e is one of v's
  unfoldable pub touches : ℕ → ℕ → Bool
  touches v e = eqb (left_of e) v or eqb (right_of e) v

  -- the end of e that is not v
  unfoldable pub far_end : ℕ → ℕ → ℕ
  far_end v e = pick (eqb (left_of e) v) (right_of e) (left_of e)

-- ---- units: the edge in 10 bits, the vertex in 8, then the kind

unfoldable pub unit_of : ℕ → OffloadingType
unit_of w =
    pick (eqb (w / 262_144) 0) (DefectMatch (record { 0 = w % 1_024 }))
    (pick (eqb (w / 262_144) 1) (VirtualMatch (record { 0 = w % 1_024 }) (record { 0 = w / 1_024 % 256 }))
    (FusionMatch (record { 0 = w % 1_024 }) (record { 0 = w / 1_024 % 256 })))

-- ---- what is in use: at most 256 vertices, 2,048 units, and of the first 1,024 edges those before the first that is a loop or some end's
-- 17th (7 and 10 in an image). So each count fits its table, and each vertex has at most 16 edges, none of them a loop. Nothing else is
-- looked at: there may be no vertex; an edge may end at a vertex that is not in use, or be conditioned on one or on no end of its own; a
-- unit may name an edge that is not in use, or a vertex that is no end of it; a weight may be over 1,000,000. An image gives none of these.

module _ (es : List ℕ) where
  -- how many of the edges before n are v's
  unfoldable pub degree : ℕ → ℕ → ℕ
  degree n v = count_to (touches es v) n

  unfoldable pub fits : ℕ → Bool
  fits e = not (eqb (left_of es e) (right_of es e)) and ltb (degree e (left_of es e)) 16 and ltb (degree e (right_of es e)) 16

  unfoldable pub edges_in_use : ℕ → ℕ
  edges_in_use n = up_to (λ e m. pick (eqb m e and fits e) (suc m) m) 0 n

unfoldable pub in_use : Graph → Graph
in_use g = record {
  nv = min g.nv 256;
  ne = edges_in_use g.edges (min g.ne 1_024);
  nu = min g.nu 2_048;
  vertices = g.vertices;
  edges = g.edges;
  weights = g.weights;
  units = g.units;
}
