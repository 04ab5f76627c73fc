-- A store into a table gives the table of the function that differs there; an array of one value is a table.
use Prim.Native.Nat.{ℕ, zero, suc, ◌+◌, ◌≤◌}
use Rattle.std.specs.Prelude.{◌≡◌, Bool, eqb, set, replicate}
use Rattle.std.proofs.Math.Path.{refl, sym, ap}
use Rattle.std.proofs.Common.{◌∙◌, zero-add, eqb-true, eq-eqb, ne_eqb}
use Rattle.std.proofs.Math.Bool.{true, false}
use mathlib.Core.List.{List, ◌∷◌}
use native.Mathlib.Omega.{arith}
use Rattle.std.proofs.lemmas.Bool.{eqb-false}
use Rattle.laws.specs.Choice.{pick}
use Rattle.laws.specs.Table.{table, table_from}

module _ {A : Type 0} where
  same_from : (f g : ℕ → A) (i n : ℕ) → ((j : ℕ) → i ≤ j → f j ≡ g j) → table_from i n f ≡ table_from i n g
  unfolding table_from
  same_from f g i zero h = refl
  same_from f g i (suc n) h = rw (h i (omega arith), same_from f g (suc i) n (λ j l. h j (omega arith)))

  set_from : (f g : ℕ → A) (i n k : ℕ) (x : A) → g (i + k) ≡ x → ((j : ℕ) → (j ≡ i + k → ⊥) → f j ≡ g j) → set (table_from i n f) k x ≡ table_from i n g
  unfolding table_from
  set_from f g i zero k x e h = refl
  set_from f g i (suc n) zero x e h =
      let z : i + 0 ≡ i = omega arith in
      rw (← e, z, same_from f g (suc i) n (λ j l. h j (λ q. omega arith)))
  set_from f g i (suc n) (suc k) x e h =
      let z : suc i + k ≡ i + suc k = omega arith in
      rw (h i (λ q. omega arith), set_from f g (suc i) n k x (ap g z ∙ e) (λ j l. h j (λ q. l (omega arith))))

  pub set_table : (f g : ℕ → A) (n i : ℕ) (x : A) → g i ≡ x → ((j : ℕ) → (j ≡ i → ⊥) → f j ≡ g j) → set (table n f) i x ≡ table n g
  unfolding table
  set_table f g n i x e h = set_from f g 0 n i x (ap g (zero-add i) ∙ e) (λ j l. h j (λ q. l (omega arith)))

  -- two stores, at places i and j
  module _ (f g : ℕ → A) (n i j : ℕ) (x y : A) (p : g i ≡ x) (q : g j ≡ y) (h : (k : ℕ) → (k ≡ i → ⊥) → (k ≡ j → ⊥) → f k ≡ g k) where
    between : ℕ → A
    between k = pick (eqb k i) x (f k)

    between_here : between i ≡ x
    unfolding between pick
    between_here = rw (eq-eqb i i refl)

    between_there : (k : ℕ) → (k ≡ i → ⊥) → f k ≡ between k
    unfolding between pick
    between_there k l = rw (ne_eqb k i l)

    after : (k : ℕ) (b : Bool) → eqb k i ≡ b → (k ≡ j → ⊥) → pick b x (f k) ≡ g k
    unfolding pick
    after k true t l = sym p ∙ ap g (sym (eqb-true k i t))
    after k false t l = h k (eqb-false k i t) l

    pub set_two : set (set (table n f) i x) j y ≡ table n g
    unfolding between
    set_two = rw (set_table f between n i x between_here between_there) (set_table between g n j y q (λ k l. after k (eqb k i) refl l))

  blank_from : (i n : ℕ) (a : A) → replicate n a ≡ table_from i n (λ k. a)
  unfolding table_from
  blank_from i zero a = refl
  blank_from i (suc n) a = ap (λ (t : List A). a ∷ t) (blank_from (suc i) n a)

  pub blank_table : (n : ℕ) (a : A) → replicate n a ≡ table n (λ k. a)
  unfolding table
  blank_table n a = blank_from 0 n a
