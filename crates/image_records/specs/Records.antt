-- The header and the records, whole, in document 01's fields.
use Rattle.std.specs.Prelude.{ℕ, List}
use Rattle.rules.specs.Image.{is_an_image, vertex_count, edge_count, unit_count, session_at, vertex_virtual, vertex_layer, edge_left, edge_right, edge_weight, edge_condition, unit_kind, unit_edge, unit_vertex}
use Rattle.image_records.specs.declared.Header.{Header}
use Rattle.image_records.specs.declared.VertexRecord.{VertexRecord}
use Rattle.image_records.specs.declared.EdgeRecord.{EdgeRecord}
use Rattle.image_records.specs.declared.UnitRecord.{UnitRecord}

abbrev pub header_of : List ℕ → Header
header_of bs = record {
  is_image = is_an_image bs;
  vertices = vertex_count bs;
  edges = edge_count bs;
  units = unit_count bs;
  session = session_at bs;
}

abbrev pub vertex_record : List ℕ → ℕ → VertexRecord
vertex_record bs v = record { default_virtual = vertex_virtual bs v; layer = vertex_layer bs v }

abbrev pub edge_record : List ℕ → ℕ → EdgeRecord
edge_record bs e = record {
  left = edge_left bs e;
  right = edge_right bs e;
  weight = edge_weight bs e;
  condition = edge_condition bs e;
}

abbrev pub unit_record : List ℕ → ℕ → UnitRecord
unit_record bs u = record { kind = unit_kind bs u; edge = unit_edge bs u; vertex = unit_vertex bs u }
