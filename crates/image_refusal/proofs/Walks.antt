-- A walk over records: the first that refuses decides, and where none does the walk passes.
use Rattle.std.specs.Fn.{Mut, Called}
use Rattle.std.specs.Iterator.{Yields, YieldsThen}
use Rattle.std.specs.List.{FoldsTo}
use Rattle.std.specs.declared.ops.Range.{Range}
use Rattle.std.specs.Result.{IsErrAnd}
use Rattle.std.proofs.iter.Yields.{nat_range_steps}
use Rattle.std.proofs.Common.{◌≡◌, ℕ, ◌+◌, ◌<◌, ◌≤◌, Result, Ok, Err, None, Some, List, [], ◌∷◌, subst, replicate, refl, sym, ap, ◌∙◌, arith, IsErr, MatchOption, Option as Item}
use Rattle.std.proofs.Math.Option.{Option, none, some}
use Rattle.laws.specs.First.{first, first_none, first_pass, first_stop}
use Rattle.laws.specs.Fold.{up_to}
use Rattle.laws.specs.Stored.{blank_table}
use Rattle.laws.specs.Table.{table}
use Rattle.rules.specs.Image.{edges_at}
use Rattle.rules.specs.declared.refusal.Refusal.{Refusal}
use Rattle.image_refusal.specs.Check.{check_of, passed}

module _ (f : ℕ → Option Refusal) where
  pub begins : first 0 f ≡ none
  begins = first_none f

  pub passes : (i : ℕ) → check_of (f i) ≡ Ok tt → first i f ≡ none → first (i + 1) f ≡ none
  passes i h p = first_pass i f p (passed (f i) h)

  stop_at : (i n : ℕ) (o : Option Refusal) → f i ≡ o → IsErr (check_of o) → first i f ≡ none → i < n → check_of (f i) ≡ check_of (first n f)
  unfolding check_of
  stop_at i n none e h p l = cc
  stop_at i n (some r) e h p l = rw (e, first_stop i n f r l p e)

  pub stops : (i n : ℕ) (r : Result Unit Refusal) → r ≡ check_of (f i) → IsErr r → first i f ≡ none → i < n → r ≡ check_of (first n f)
  stops i n r e h p l = e ∙ stop_at i n (f i) refl (subst IsErr e h) p l

  pub ends : (i n : ℕ) → first i f ≡ none → i ≤ n → n ≤ i → Ok tt ≡ check_of (first n f)
  unfolding check_of
  ends i n p l g = let e : i ≡ n = omega arith in rw (← e, p)

pub blank_counts : (bs : List ℕ) → replicate 256 0 ≡ table 256 (edges_at bs 0)
unfolding edges_at up_to
blank_counts bs = blank_table 256 0

is_error : (r : Result Unit Refusal) (x : Refusal) → IsErrAnd r (λ y. y ≡ x) → r ≡ Err x
is_error (Ok y) x h = absurd h
is_error (Err y) x h = ap Err h

-- ---- `try_for_each` over a range, where a call at x gives f x

module _ {C E : Type 0} (g : Mut C (ℕ × Unit {0}) (Result Unit Refusal)) (p : C) (value : E → Refusal) (n : ℕ) (u : Range ℕ) (r : Result Unit Refusal) where
  abbrev Turn : C → ℕ → C → Type 0
  Turn j x q = (v : Result Unit Refusal) × Called g j (x, tt) v q × (v ≡ Ok tt)

  abbrev End : C → Item ℕ → Type 0
  End q o = MatchOption o (r ≡ Ok tt)
      (λ x. (v : Result Unit Refusal) × (h : C) × (e : E) × Called g q (x, tt) v h × (v ≡ Err (value e)) × (IsErr r × IsErrAnd r (λ y. y ≡ value e)))

  module _ (f : ℕ → Option Refusal)
      (calls : (x : ℕ) (v : Result Unit Refusal) (q : C) → Called g p (x, tt) v q → (q ≡ p) × (v ≡ check_of (f x))) where
    walked : (xs : List ℕ) (s t : Range ℕ) (j q : C) → Yields nat_range_steps s xs t → FoldsTo Turn j xs q → j ≡ p
        → s.start ≤ s.end → first s.start f ≡ none → (q ≡ p) × (t.end ≡ s.end) × (t.start ≤ t.end) × (first t.start f ≡ none)
    walked [] s t j q y c e l h =
        (sym c ∙ e, ap (λ (k : Range ℕ). k.end) (sym y), subst (λ k. k.start ≤ k.end) y l, subst (λ k. first k.start f ≡ none) y h)
    walked (x ∷ xs) s t j q y c e l h =
        let turn = calls x c.1.0 c.0 (subst (λ k. Called g k (x, tt) c.1.0 c.0) e c.1.1) in
        let here : check_of (f s.start) ≡ Ok tt = rw (← y.1.1.1, ← turn.1) c.1.2 in
        let next : first y.0.start f ≡ none = rw y.1.1.2 (passes f s.start here h) in
        let rest = walked xs y.0 t c.0 q y.2 c.2 turn.0 (omega arith) next in
        (rest.0, rest.1 ∙ y.1.0, rest.2, rest.3)

    ended : (o : Item ℕ) (t : Range ℕ) (q : C) → q ≡ p → t.end ≡ n → t.start ≤ t.end → first t.start f ≡ none → nat_range_steps t o u
        → End q o → r ≡ check_of (first n f)
    ended None t q e m l h y d = d ∙ ends f t.start n h (omega arith) (omega arith)
    ended (Some x) t q e m l h y d =
        let turn = calls x d.0 d.1 (subst (λ k. Called g k (x, tt) d.0 d.1) e d.3) in
        let same : r ≡ d.0 = is_error r (value d.2) d.5.1 ∙ sym d.4 in
        let here : r ≡ check_of (f t.start) = rw (← y.1.1) (same ∙ turn.1) in
        stops f t.start n r here d.5.0 h (omega arith)

pub tried : {C E : Type 0} {g : Mut C (ℕ × Unit {0}) (Result Unit Refusal)} {p : C} {value : E → Refusal} {n : ℕ} {u : Range ℕ} {r : Result Unit Refusal}
    → (xs : List ℕ) × (o : Item ℕ) × (q : C) × YieldsThen nat_range_steps (record { start = 0; end = n }) xs o u × FoldsTo (Turn g p value n u r) p xs q × End g p value n u r q o
    → (f : ℕ → Option Refusal) → ((x : ℕ) (v : Result Unit Refusal) (q : C) → Called g p (x, tt) v q → (q ≡ p) × (v ≡ check_of (f x)))
    → r ≡ check_of (first n f)
tried {C} {E} {g} {p} {value} {n} {u} {r} d f calls =
    let w = walked g p value n u r f calls d.0 (record { start = 0; end = n }) d.3.0 p d.2 d.3.1 d.4 refl (omega arith) (begins f) in
    ended g p value n u r f calls d.1 d.3.0 d.2 w.0 w.1 w.2 w.3 d.3.2 d.5

pub ruleset walks = (begins, passes, stops, ends, blank_counts)
