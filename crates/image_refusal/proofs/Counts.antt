-- An edge counts once at each of its two ends, which differ, and at no other vertex.
use Rattle.std.specs.Result.{result_and}
use Rattle.std.proofs.Common.{◌≡◌, ◌≢◌, ℕ, ◌+◌, ◌<◌, true, false, ◌||◌, leb, List, get_or, set, refl, sym, ap, ◌∙◌, arith, add-one, eq-eqb, ne_eqb, get_or-set_other}
use Rattle.laws.specs.Choice.{◌or◌}
use Rattle.laws.specs.Connectives.{or_is, or_true}
use Rattle.laws.specs.Fold.{up_to, bit}
use Rattle.laws.specs.Orders.{or_else_assoc}
use Rattle.laws.specs.Stored.{set_two}
use Rattle.laws.specs.Table.{table, get_or_table}
use Rattle.rules.specs.Image.{refuse_if, vertex_count, edge_left, edge_right, is_end, edges_at, edge_refusal}
use Rattle.rules.specs.declared.refusal.Refusal.TheVariants as R
use Rattle.image_records.specs.Records.{edge_record}
use Rattle.image_records.specs.declared.EdgeRecord.{EdgeRecord}
use Rattle.image_refusal.specs.Check.{check_of, record_refusal}
use Rattle.image_refusal.proofs.Checks.{in_order, ends_are}

module _ (bs : List ℕ) (e : ℕ) where
  pub edge_checks : check_of (edge_refusal bs e) ≡ result_and (check_of (record_refusal (vertex_count bs) (edge_record bs e)))
      (check_of (refuse_if (leb 16 (edges_at bs e (edge_left bs e)) || leb 16 (edges_at bs e (edge_right bs e))) R.Crowded))
  unfolding edge_refusal record_refusal
  edge_checks = simp (← in_order, or_else_assoc, or_is, ends_are)

  -- ---- the counts of the edges before the next

  counted : (w : ℕ) → edges_at bs (e + 1) w ≡ edges_at bs e w + bit (is_end bs w e)
  unfolding edges_at up_to
  counted w = rw (add-one e)

  at_left : is_end bs (edge_left bs e) e ≡ true
  unfolding is_end ◌or◌
  at_left = rw (eq-eqb (edge_left bs e) (edge_left bs e) refl)

  at_right : is_end bs (edge_right bs e) e ≡ true
  unfolding is_end
  at_right = or_true _ _ (eq-eqb (edge_right bs e) (edge_right bs e) refl)

  elsewhere : (w : ℕ) → w ≢ edge_left bs e → w ≢ edge_right bs e → is_end bs w e ≡ false
  unfolding is_end ◌or◌
  elsewhere w h j = rw (ne_eqb (edge_left bs e) w (λ q. h (sym q)), ne_eqb (edge_right bs e) w (λ q. j (sym q)))

  module _ (x : EdgeRecord) (px : x ≡ edge_record bs e) (l : x.left < 256) (r : x.right < 256) (d : x.left ≢ x.right) where
    pub turn : (ds : List ℕ) → ds ≡ table 256 (edges_at bs e)
        → set (set ds x.left (get_or ds x.left 0 + 1)) x.right (get_or (set ds x.left (get_or ds x.left 0 + 1)) x.right 0 + 1) ≡ table 256 (edges_at bs (e + 1))
    turn ds pd =
        let left : x.left ≡ edge_left bs e = ap (λ (y : EdgeRecord). y.left) px in
        let right : x.right ≡ edge_right bs e = ap (λ (y : EdgeRecord). y.right) px in
        let other : x.right ≢ x.left = λ q. d (sym q) in
        rw (
          get_or-set_other ds x.left x.right (get_or ds x.left 0 + 1) 0 other,
          pd,
          get_or_table (edges_at bs e) 256 x.left 0 l,
          get_or_table (edges_at bs e) 256 x.right 0 r,
          left,
          right,
        )
        (set_two (edges_at bs e) (edges_at bs (e + 1)) 256 (edge_left bs e) (edge_right bs e) _ _
        (counted (edge_left bs e) ∙ rw at_left)
        (counted (edge_right bs e) ∙ rw at_right)
        (λ w h j. sym (counted w ∙ rw (elsewhere w h j) (omega arith))))
