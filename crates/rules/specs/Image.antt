-- Document 01, "The DCT image, version 1": what its bytes say, and the refusals 1 to 11 in order of checking.
use Rattle.std.specs.Prelude.{ℕ, ◌+◌, ◌*◌, Bool, true, false, not, List, [], ◌++◌, map, eqb, leb, ltb, get_or, length, replicate}
use Rattle.std.proofs.Math.Option.{Option, none, some}
use Rattle.laws.specs.Choice.{◌and◌, ◌or◌, pick}
use Rattle.laws.specs.First.{first, or_else}
use Rattle.laws.specs.Fold.{count_to}
use Rattle.laws.specs.Listed.{indices, slots}
use Rattle.laws.specs.Table.{table, paint}
use Rattle.rules.specs.declared.graph.Graph.{Graph}
use Rattle.rules.specs.declared.graph.Opened.{Opened}
use Rattle.std.specs.Prelude.{Err, Ok}
use Rattle.rules.specs.declared.refusal.Refusal.{Refusal}
use Rattle.rules.specs.declared.refusal.Refusal.TheVariants as R

-- the refusal, where the test holds
abbrev pub refuse_if : Bool → Refusal → Option Refusal
refuse_if true r = some r
refuse_if false r = none

module _ (bs : List ℕ) where
  -- "Little-endian"
  unfoldable pub byte_at : ℕ → ℕ
  byte_at p = get_or bs p 0

  unfoldable pub u16_at : ℕ → ℕ
  u16_at p = byte_at p + byte_at (p + 1) * 256

  unfoldable pub u32_at : ℕ → ℕ
  u32_at p = u16_at p + u16_at (p + 2) * 65_536

  -- ---- "`DCT`; u16 version 1; u8 flags (bit 0 layer fusion, bit 1 offloading, others 0); u16 V, E, U"

  unfoldable pub is_an_image : Bool
  is_an_image =
      leb 12 (length bs) and eqb (byte_at 0) 68 and eqb (byte_at 1) 67 and eqb (byte_at 2) 84
      and eqb (u16_at 3) 1 and leb (byte_at 5) 3

  unfoldable pub fusion : Bool
  fusion = eqb (byte_at 5) 1 or eqb (byte_at 5) 3

  unfoldable pub offloading : Bool
  offloading = eqb (byte_at 5) 2 or eqb (byte_at 5) 3

  abbrev pub vertex_count : ℕ
  vertex_count = u16_at 6

  abbrev pub edge_count : ℕ
  edge_count = u16_at 8

  abbrev pub unit_count : ℕ
  unit_count = u16_at 10

  -- where the records start: of 3, 10 and 5 bytes, vertices, edges, units, and then the session's
  abbrev pub vertex_at : ℕ → ℕ
  vertex_at v = 12 + 3 * v

  abbrev pub edge_at : ℕ → ℕ
  edge_at e = vertex_at vertex_count + 10 * e

  abbrev pub unit_at : ℕ → ℕ
  unit_at u = edge_at edge_count + 5 * u

  abbrev pub session_at : ℕ
  session_at = unit_at unit_count

  -- "Bounds: V 1..256, E and U 0..1,024"; "5: bytes run out before the counted records"
  unfoldable pub head_refusal : Option Refusal
  head_refusal =
      or_else (refuse_if (not is_an_image) R.NotAnImage)
      (or_else (refuse_if (eqb vertex_count 0 or ltb 256 vertex_count) R.VertexCount)
      (or_else (refuse_if (ltb 1_024 edge_count) R.EdgeCount)
      (or_else (refuse_if (ltb 1_024 unit_count) R.UnitCount)
      (refuse_if (ltb (length bs) session_at) R.CutShort))))

  -- ---- "V records: u8 default virtual (0 or 1); u16 layer, 0..32,767, or 65,535 for none"

  abbrev pub vertex_virtual : ℕ → ℕ
  vertex_virtual v = byte_at (vertex_at v)

  abbrev pub vertex_layer : ℕ → ℕ
  vertex_layer v = u16_at (vertex_at v + 1)

  unfoldable pub vertex_refusal : ℕ → Option Refusal
  vertex_refusal v =
      refuse_if (ltb 1 (vertex_virtual v) or ltb 32_767 (vertex_layer v) and not (eqb (vertex_layer v) 65_535)) R.VertexRecord

  -- ---- "E records: u16 left, u16 right, u32 weight, u16 conditioned vertex or 65,535"

  abbrev pub edge_left : ℕ → ℕ
  edge_left e = u16_at (edge_at e)

  abbrev pub edge_right : ℕ → ℕ
  edge_right e = u16_at (edge_at e + 2)

  abbrev pub edge_weight : ℕ → ℕ
  edge_weight e = u32_at (edge_at e + 4)

  abbrev pub edge_condition : ℕ → ℕ
  edge_condition e = u16_at (edge_at e + 8)

  unfoldable pub is_end : ℕ → ℕ → Bool
  is_end v e = eqb (edge_left e) v or eqb (edge_right e) v

  -- how many of the edges before e end at v
  unfoldable pub edges_at : ℕ → ℕ → ℕ
  edges_at e v = count_to (is_end v) e

  unfoldable pub edge_refusal : ℕ → Option Refusal
  edge_refusal e =
      -- "7: edge end not below V, or both ends equal"
      or_else
      (refuse_if (leb vertex_count (edge_left e) or leb vertex_count (edge_right e) or eqb (edge_left e) (edge_right e)) R.EdgeEnds)
      -- "8: weight over 1,000,000"
      (or_else (refuse_if (ltb 1_000_000 (edge_weight e)) R.Weight)
      -- "9: conditioned vertex not an end of its edge"
      (or_else (refuse_if (not (eqb (edge_condition e) 65_535) and not (is_end (edge_condition e) e)) R.Condition)
      -- "10: this edge is some end's 17th"
      (refuse_if (leb 16 (edges_at e (edge_left e)) or leb 16 (edges_at e (edge_right e))) R.Crowded)))

  -- ---- "U records: u8 kind (0 DefectMatch, 1 VirtualMatch), u16 edge, u16 virtual vertex (65,535 for kind 0)"

  abbrev pub unit_kind : ℕ → ℕ
  unit_kind u = byte_at (unit_at u)

  abbrev pub unit_edge : ℕ → ℕ
  unit_edge u = u16_at (unit_at u + 1)

  abbrev pub unit_vertex : ℕ → ℕ
  unit_vertex u = u16_at (unit_at u + 3)

  -- "kind over 1, edge not below E, vertex not 65,535 for kind 0, not an end for kind 1"
  unfoldable pub unit_refusal : ℕ → Option Refusal
  unit_refusal u =
      refuse_if
      (ltb 1 (unit_kind u) or leb edge_count (unit_edge u)
      or pick (eqb (unit_kind u) 0) (not (eqb (unit_vertex u) 65_535)) (not (is_end (unit_vertex u) (unit_edge u))))
      R.UnitRecord

  -- "Records are checked by index, vertices, edges, units; each record in the order shown"
  unfoldable pub image_refusal : Option Refusal
  image_refusal =
      elim head_refusal [
        | some r ↦ some r
        | none ↦ or_else (first vertex_count vertex_refusal) (or_else (first edge_count edge_refusal) (first unit_count unit_refusal))
      ]

  -- ---- the graph of an accepted image, its flags applied, in the words of specs/Graph.antt

  -- "Without bit 0, conditions and layers are checked, then ignored"
  unfoldable pub vertex_word : ℕ → ℕ
  vertex_word v = pick fusion (vertex_layer v) 65_535 + vertex_virtual v * 65_536

  unfoldable pub condition : ℕ → ℕ
  condition e = pick fusion (edge_condition e) 65_535

  unfoldable pub edge_word : ℕ → ℕ
  edge_word e = edge_left e + edge_right e * 256 + condition e * 65_536

  unfoldable pub unit_word : ℕ → ℕ
  unit_word u = unit_edge u + pick (eqb (unit_kind u) 0) 0 (unit_vertex u) * 1_024 + unit_kind u * 262_144

  -- "With both, each conditioned edge also gets one FusionMatch"
  unfoldable pub fusion_word : ℕ → ℕ
  fusion_word e = e + condition e * 1_024 + 524_288

  unfoldable pub is_conditioned : ℕ → Bool
  is_conditioned e = not (eqb (condition e) 65_535)

  -- "Without bit 1 unit records are treated so, and there are no units"
  unfoldable pub unit_words : List ℕ
  unit_words = pick offloading (table unit_count unit_word ++ map fusion_word (indices is_conditioned edge_count)) []

  unfoldable pub graph_of : Graph
  graph_of = record {
    nv = vertex_count;
    ne = edge_count;
    nu = length unit_words;
    vertices = paint vertex_count vertex_word (replicate 256 0);
    edges = paint edge_count edge_word (replicate 1_024 0);
    weights = paint edge_count edge_weight (replicate 1_024 0);
    units = slots 2_048 unit_words;
  }

unfoldable pub blank_graph : Graph
blank_graph = record {
  nv = 0;
  ne = 0;
  nu = 0;
  vertices = replicate 256 0;
  edges = replicate 1_024 0;
  weights = replicate 1_024 0;
  units = replicate 2_048 0;
}

-- "no decoder" where an image is refused
abbrev pub opened_by : List ℕ → Option Refusal → Opened
opened_by bs none = record { graph = graph_of bs; opening = Ok (record { units = unit_count bs; start = session_at bs }) }
opened_by bs (some r) = record { graph = blank_graph; opening = Err r }

unfoldable pub opened : List ℕ → Opened
opened bs = opened_by bs (image_refusal bs)
