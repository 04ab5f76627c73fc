-- An edge is heard alike at either end: what it responds asks of both ends the same, and a report names the edge alone.
use Rattle.std.proofs.Common.{ℕ, ◌+◌, ◌≡◌, refl, sym, Bool, true, false, not, List, arith, eqb, get_or, eqb-true, eq-eqb, ne_eqb, Ok}
use borrow.Author.Tests.{eqb-false}
use Rattle.laws.specs.Choice.{◌and◌, ◌or◌, pick}
use Rattle.rules.specs.Graph.{left_of, right_of, touches, far_end}
use Rattle.rules.specs.Registers.{at, same_node}
use Rattle.rules.specs.Respond.{joint, is_zero, available, side, limit, meeting, respond, less, remaining, edge_response}
use Rattle.rules.specs.declared.instruction.CompactGrowState.{CompactGrowState}
use Rattle.rules.specs.declared.instruction.CompactGrowState.TheVariants.{Stay, Grow, Shrink}
use Rattle.rules.specs.declared.registers.VertexRegisters.{VertexRegisters}
use Rattle.rules.specs.declared.finding.Length.{Length}
use Rattle.rules.specs.declared.finding.Side.{Side}
use Rattle.rules.specs.declared.finding.Finding.TheVariants.{Conflict}
use Rattle.rules.specs.Types.{Response}
use Rattle.comb_cycle.specs.Strongest.{silent, report_of, report_from, report}
use Rattle.comb_cycle.specs.declared.report.Report.{Report}

same_either : (m n : ℕ) (b : Bool) → eqb m n ≡ b → b ≡ eqb n m
same_either m n true t = sym (eq-eqb n m (sym (eqb-true m n t)))
same_either m n false t = sym (ne_eqb n m (λ z. eqb-false m n t (sym z)))

joint_either : (a b : CompactGrowState) → joint a b ≡ joint b a
joint_either Stay Stay = refl
joint_either Stay Grow = refl
joint_either Stay Shrink = refl
joint_either Grow Stay = refl
joint_either Grow Grow = refl
joint_either Grow Shrink = refl
joint_either Shrink Stay = refl
joint_either Shrink Grow = refl
joint_either Shrink Shrink = refl

module _ (e : ℕ) where
  -- z is whether nothing remains, a and b whether the ends are available
  conflict_either : (z a b : Bool) (s t : Side) (r : Response)
      → report_of e (pick (z and not a and not b) (Ok (Conflict s t)) r) ≡ report_of e (pick (z and not b and not a) (Ok (Conflict t s)) r)
  unfolding pick ◌and◌
  conflict_either true true true s t r = refl
  conflict_either true true false s t r = refl
  conflict_either true false true s t r = refl
  conflict_either true false false s t r = refl
  conflict_either false a b s t r = refl

  unless : (idle : Bool) (x y z : Response) → report_of e y ≡ report_of e z → report_of e (pick idle x y) ≡ report_of e (pick idle x z)
  unfolding pick
  unless true x y z h = refl
  unless false x y z h = h

  heard_either : (a b : VertexRegisters) (v w : ℕ) (l : Length) → report_of e (respond a b v w l) ≡ report_of e (respond b a w v l)
  unfolding respond meeting
  heard_either a b v w l =
      rw (same_either a.node.0 b.node.0 _ refl, joint_either a.speed b.speed)
      (unless _ _ _ _ (conflict_either (is_zero l) (available a) (available b) (side a v) (side b w) (limit (joint b.speed a.speed) l)))

module _ (es fs ys ss : List ℕ) (v e : ℕ) where
  abbrev from : ℕ → ℕ → Report
  from x y = report_from fs ys ss x e y

  from_either : (x y : ℕ) → from x y ≡ from y x
  unfolding report_from
  from_either x y =
      let sum : (at ys x).grown + (at ys y).grown ≡ (at ys y).grown + (at ys x).grown = omega arith in
      rw sum (heard_either e (at ss x) (at ss y) x y (less (get_or fs e 0) ((at ys y).grown + (at ys x).grown)))

  by_end : (l r : ℕ) (b : Bool) → eqb l v ≡ b → (b or eqb r v) ≡ true → from v (pick b r l) ≡ from l r
  unfolding pick ◌or◌
  by_end l r true t h = rw (eqb-true l v t)
  by_end l r false t h = rw (← eqb-true r v h) (from_either r l)

  pub heard_from_lem : touches es v e ≡ true → from v (far_end es v e) ≡ report es fs ys ss e
  unfolding touches far_end report edge_response remaining report_from
  heard_from_lem h = by_end (left_of es e) (right_of es e) (eqb (left_of es e) v) refl h

-- ---- the ways to what is heard at v: a and b are the shadows, g and h the grown amounts of v and w, f is the fetch weight

module _ (fs ys ss : List ℕ) (v e w : ℕ) {a b : VertexRegisters} (near : a ≡ at ss v) (far : b ≡ at ss w) {idle : Bool}
    (tells : idle ≡ (same_node a.node b.node or eqb (joint a.speed b.speed) 0)) {r : Report} where
  pub hears_nothing : idle ≡ true → r ≡ silent → r ≡ report_from fs ys ss v e w
  unfolding report_from respond pick
  hears_nothing t p = rw (← near, ← far, ← tells, t) p

  pub hears : idle ≡ false → {f g h : ℕ} → f ≡ get_or fs e 0 → g ≡ (at ys v).grown → h ≡ (at ys w).grown → {l : Length} → l ≡ less f (g + h) → {x : Response}
      → x ≡ meeting a b v w l → r ≡ report_of e x → r ≡ report_from fs ys ss v e w
  unfolding report_from respond pick
  hears t i j k m q p = rw (← near, ← far, ← tells, t, ← i, ← j, ← k, ← m, ← q) p

pub ruleset hearing = (hears_nothing, hears)
