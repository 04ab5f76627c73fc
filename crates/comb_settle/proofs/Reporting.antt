-- What one vertex more does to the length, and what the loop holds after each turn; what the vertices find is told of the whole table.
use Rattle.std.proofs.Common.{ℕ, ◌+◌, ◌≤◌, ◌<◌, min, ◌≡◌, refl, sym, ap, ◌∙◌, true, false, List, add-one, arith, ltb, length, set, ltb-false, lt-ltb}
use Rattle.laws.specs.Choice.{pick, by_test}
use Rattle.laws.specs.Fold.{up_to}
use Rattle.laws.specs.Table.{paint, paint_none, paint_step, get_or_painted}
use Rattle.rules.specs.Registers.{at, view, keep, shrinking, fresh}
use Rattle.rules.proofs.Round.{view_in_range}
use Rattle.rules.specs.Respond.{vertex_report}
use Rattle.rules.specs.Reduce.{least, reduce, vertex_finding}
use Rattle.rules.specs.declared.finding.Finding.{Finding}
use Rattle.rules.specs.declared.finding.Finding.TheVariants.{GrowLength}
use Rattle.rules.specs.declared.finding.Length.{Length}
use Rattle.rules.specs.declared.finding.Length.TheVariants.{Ahead}
use Rattle.rules.specs.declared.registers.VertexRegisters.{VertexRegisters}
use Rattle.interface.proofs.Join.{reduce_unit_right}
use Rattle.comb_settle.specs.Carried.{length_in}
use Rattle.comb_settle.proofs.Settling.{fresh_seen}

-- ---- one word w more: x holds its registers, and l is the length so far

amount : (n : ℕ) → n < 67_108_864 → length_in n ≡ Ahead n
unfolding length_in pick
amount n small = rw (lt-ltb n 67_108_864 small)

bounded : (l g : ℕ) → g < 67_108_864 → length_in (min l g) ≡ least (length_in l) (Ahead g)
unfolding length_in
bounded l g small =
    by_test (λ (m : Length). length_in (min l g) ≡ least m (Ahead g)) (ltb l 67_108_864)
    (λ t. amount (min l g) (omega arith)) (λ t. let e : min l g ≡ g = omega (arith, ltb-false l 67_108_864 t) in rw e (amount g small))

module _ (l w : ℕ) {x : VertexRegisters} (a : x ≡ view w) where
  small : x.grown < 67_108_864
  small = rw a (view_in_range w).grown

  pub shorter : shrinking x.speed ≡ true → {m : ℕ} → m ≡ min l x.grown → GrowLength (length_in m) ≡ reduce (GrowLength (length_in l)) (vertex_report (view w))
  unfolding vertex_report pick
  shorter h q = rw (← a, h, q) (ap GrowLength (bounded l x.grown small))

  pub no_shorter : shrinking x.speed ≡ false → GrowLength (length_in l) ≡ reduce (GrowLength (length_in l)) (vertex_report (view w))
  unfolding vertex_report pick
  no_shorter h = rw (← a, h) (sym (reduce_unit_right (GrowLength (length_in l))))

pub ruleset lengths = (shorter, no_shorter)

fresh_quiet : (f : Finding) (x : VertexRegisters) → shrinking x.speed ≡ false → reduce f (vertex_report x) ≡ f
unfolding vertex_report pick
fresh_quiet f x h = rw h (reduce_unit_right f)

-- a vertex that is free bounds no length
pub free_quiet : (f : Finding) (w : ℕ) → w ≡ keep (fresh false) → f ≡ reduce f (vertex_report (view w))
unfolding fresh
free_quiet f w i = sym (rw (i, fresh_seen false) (fresh_quiet f (fresh false) refl))

-- ---- the loop: W and S give what stages 5 and 6 make of each vertex

module _ (W S : ℕ → ℕ) (start shades : List ℕ) (n : ℕ) where
  -- the tables and the length l after the first v vertices
  abbrev pub SoFar : ℕ → List ℕ → List ℕ → ℕ → Type 0
  SoFar v ys zs l =
      (ys ≡ paint v W start) × (zs ≡ paint v S shades) × (GrowLength (length_in l) ≡ vertex_finding (paint n W start) v)

  pub none_yet : SoFar 0 start shades 67_108_864
  unfolding vertex_finding up_to length_in pick
  none_yet = (paint_none W start, paint_none S shades, refl)

  module _ (v : ℕ) (inside : v < n) (long : v < length start) where
    reports : (w l m : ℕ) → w ≡ W v → GrowLength (length_in m) ≡ reduce (GrowLength (length_in l)) (vertex_report (view w))
        → GrowLength (length_in l) ≡ vertex_finding (paint n W start) v → GrowLength (length_in m) ≡ vertex_finding (paint n W start) (v + 1)
    unfolding vertex_finding up_to at
    reports w l m k e p = rw (add-one v, get_or_painted W n start v 0 inside long, ← k, e, p)

    pub turn : (w s l m : ℕ) {ys zs us ts : List ℕ} → SoFar v ys zs l → w ≡ W v → s ≡ S v
        → GrowLength (length_in m) ≡ reduce (GrowLength (length_in l)) (vertex_report (view w)) → us ≡ set ys v w → ts ≡ set zs v s → SoFar (v + 1) us ts m
    turn w s l m p k j e a b =
        (a ∙ paint_step W start v w p.0 k, b ∙ paint_step S shades v s p.1 j, reports w l m k e p.2)

-- what the loop has told at its end
module _ (v n m : ℕ) (l : v ≤ n) (g : n ≤ v) (z : n ≡ m) where
  pub all_told : (W : ℕ → ℕ) (start ys : List ℕ) (a : ℕ) {k : Length} → k ≡ length_in a → GrowLength (length_in a) ≡ vertex_finding (paint n W start) v → ys ≡ paint v W start
      → GrowLength k ≡ vertex_finding ys m
  all_told W start ys a r p q = let e : v ≡ n = omega arith in let d : m ≡ n = omega arith in rw (r, d, q, e) (rw e at p)
