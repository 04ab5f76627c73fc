-- What an image that is not refused shows: each test of each record failed.
use Rattle.std.specs.Prelude.{ℕ, ◌≤◌, ◌<◌, ◌≡◌, refl, Bool, true, false, List, eqb, leb, ltb, length}
use Rattle.std.proofs.Common.{sym, ◌∙◌, leb-false, ltb-false}
use Rattle.std.proofs.Math.Bool.{not}
use Rattle.std.proofs.Math.Option.{Option, none, some}
use Rattle.laws.specs.Choice.{◌and◌, ◌or◌}
use Rattle.laws.specs.Connectives.{or_first, or_second}
use Rattle.laws.specs.First.{first, or_else}
use Rattle.laws.specs.Orders.{none_first, none_next, first_each}
use Rattle.rules.specs.Image.{refuse_if, vertex_count, edge_count, unit_count, is_an_image, session_at, head_refusal, vertex_refusal, edge_left, edge_right, edge_weight, edge_condition, is_end, edges_at, edge_refusal, unit_refusal, image_refusal}
use Rattle.rules.specs.declared.refusal.Refusal.{Refusal}
use Rattle.rules.specs.declared.refusal.Refusal.TheVariants as R

pub not_refused : (t : Bool) (r : Refusal) → refuse_if t r ≡ none → t ≡ false
not_refused true r h = cc
not_refused false r h = refl

five_tests : (a b c d e : Bool) (p q r s t : Refusal)
    → or_else (refuse_if a p) (or_else (refuse_if b q) (or_else (refuse_if c r) (or_else (refuse_if d s) (refuse_if e t)))) ≡ none
    → (b ≡ false) × (c ≡ false) × (d ≡ false) × (e ≡ false)
five_tests true b c d e p q r s t h = (cc, cc, cc, cc)
five_tests false true c d e p q r s t h = (cc, cc, cc, cc)
five_tests false false true d e p q r s t h = (cc, cc, cc, cc)
five_tests false false false true e p q r s t h = (cc, cc, cc, cc)
five_tests false false false false e p q r s t h = (refl, refl, refl, not_refused e t h)

four_tests : (a b c d : Bool) (p q r s : Refusal)
    → or_else (refuse_if a p) (or_else (refuse_if b q) (or_else (refuse_if c r) (refuse_if d s))) ≡ none
    → (a ≡ false) × (d ≡ false)
four_tests true b c d p q r s h = (cc, cc)
four_tests false true c d p q r s h = (cc, cc)
four_tests false false true d p q r s h = (cc, cc)
four_tests false false false d p q r s h = (refl, not_refused d s h)

-- ---- the head

module _ (bs : List ℕ) (h : head_refusal bs ≡ none) where
  head_tests : (eqb (vertex_count bs) 0 or ltb 256 (vertex_count bs) ≡ false)
      × (ltb 1_024 (edge_count bs) ≡ false) × (ltb 1_024 (unit_count bs) ≡ false) × (ltb (length bs) (session_at bs) ≡ false)
  unfolding head_refusal
  head_tests = five_tests (not (is_an_image bs)) _ _ _ _ R.NotAnImage R.VertexCount R.EdgeCount R.UnitCount R.CutShort h

  pub vertices_fit : vertex_count bs ≤ 256
  vertices_fit = ltb-false 256 (vertex_count bs) (or_second (eqb (vertex_count bs) 0) _ head_tests.0)

  pub edges_fit : edge_count bs ≤ 1_024
  edges_fit = ltb-false 1_024 (edge_count bs) head_tests.1

  pub units_fit : unit_count bs ≤ 1_024
  units_fit = ltb-false 1_024 (unit_count bs) head_tests.2

-- ---- the whole image

in_order : (o p : Option Refusal) → elim o [ some r ↦ some r | none ↦ p ] ≡ or_else o p
in_order none p = refl
in_order (some r) p = refl

module _ (bs : List ℕ) where
  abbrev vertices : Option Refusal
  vertices = first (vertex_count bs) (vertex_refusal bs)

  abbrev edges : Option Refusal
  edges = first (edge_count bs) (edge_refusal bs)

  abbrev units : Option Refusal
  units = first (unit_count bs) (unit_refusal bs)

  pub image_is : image_refusal bs ≡ or_else (head_refusal bs) (or_else vertices (or_else edges units))
  unfolding image_refusal
  image_is = in_order (head_refusal bs) _

module _ (bs : List ℕ) (h : image_refusal bs ≡ none) where
  parts : or_else (head_refusal bs) (or_else (vertices bs) (or_else (edges bs) (units bs))) ≡ none
  parts = sym (image_is bs) ∙ h

  pub head_passes : head_refusal bs ≡ none
  head_passes = none_first (head_refusal bs) _ parts

  pub edge_passes : (e : ℕ) → e < edge_count bs → edge_refusal bs e ≡ none
  edge_passes e l =
      first_each (edge_refusal bs) (edge_count bs) e (none_first (edges bs) (units bs) (none_next (vertices bs) _ (none_next (head_refusal bs) _ parts))) l

-- ---- an edge

module _ (bs : List ℕ) (e : ℕ) (h : edge_refusal bs e ≡ none) where
  edge_tests : (leb (vertex_count bs) (edge_left bs e) or leb (vertex_count bs) (edge_right bs e) or eqb (edge_left bs e) (edge_right bs e) ≡ false)
      × (leb 16 (edges_at bs e (edge_left bs e)) or leb 16 (edges_at bs e (edge_right bs e)) ≡ false)
  unfolding edge_refusal
  edge_tests =
      four_tests _ (ltb 1_000_000 (edge_weight bs e)) (not (eqb (edge_condition bs e) 65_535) and not (is_end bs (edge_condition bs e) e)) _
      R.EdgeEnds R.Weight R.Condition R.Crowded h

  pub left_inside : edge_left bs e < vertex_count bs
  left_inside = leb-false (vertex_count bs) (edge_left bs e) (or_first _ _ (or_first _ _ edge_tests.0))

  pub right_inside : edge_right bs e < vertex_count bs
  right_inside = leb-false (vertex_count bs) (edge_right bs e) (or_second (leb (vertex_count bs) (edge_left bs e)) _ (or_first _ _ edge_tests.0))

  pub ends_differ : eqb (edge_left bs e) (edge_right bs e) ≡ false
  ends_differ = or_second (leb (vertex_count bs) (edge_left bs e) or leb (vertex_count bs) (edge_right bs e)) _ edge_tests.0

  pub left_room : edges_at bs e (edge_left bs e) < 16
  left_room = leb-false 16 (edges_at bs e (edge_left bs e)) (or_first _ _ edge_tests.1)

  pub right_room : edges_at bs e (edge_right bs e) < 16
  right_room = leb-false 16 (edges_at bs e (edge_right bs e)) (or_second (leb 16 (edges_at bs e (edge_left bs e))) _ edge_tests.1)
