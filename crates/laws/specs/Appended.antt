-- A list that grows at its end, and the array that it stands in from the start on.
use Prim.Native.Nat.{ℕ, zero, suc, ◌+◌, ◌≤◌}
use Rattle.std.specs.Prelude.{◌≡◌, refl, Bool, true, false, length, get_or, set, replicate}
use Rattle.std.proofs.Common.{sym, ap, ◌∙◌, zero-add, add-zero, add-one, length-append}
use mathlib.Core.List.{List, [], ◌∷◌, ◌++◌, map, append-nil, append_assoc}
use native.Mathlib.Omega.{arith}
use Rattle.std.proofs.Math.Seq.{get_or-append_seam}
use Rattle.laws.specs.Choice.{pick}
use Rattle.laws.specs.Listed.{indices, slots}
use Rattle.laws.specs.Stored.{set_table, blank_table}
use Rattle.laws.specs.Table.{table_from, table, length_table}

elsewhere : (x : ℕ) (xs : List ℕ) (k : ℕ) → (k ≡ length xs → ⊥) → get_or xs k 0 ≡ get_or (xs ++ x ∷ []) k 0
elsewhere x [] zero h = absurd (h refl)
elsewhere x [] (suc k) h = refl
elsewhere x (y ∷ xs) zero h = refl
elsewhere x (y ∷ xs) (suc k) h = elsewhere x xs k (λ q. h (ap suc q))

-- a store just past the list is the list with one element more
pub push : (m i x : ℕ) (xs ys : List ℕ) → ys ≡ slots m xs → i ≡ length xs → set ys i x ≡ slots m (xs ++ x ∷ [])
unfolding slots
push m i x xs ys p q =
    rw (p, q) (set_table (λ k. get_or xs k 0) (λ k. get_or (xs ++ x ∷ []) k 0) m (length xs) x (get_or-append_seam xs x [] 0) (elsewhere x xs))

-- ---- f 0, f 1, ..

module _ (f : ℕ → ℕ) where
  more_from : (i n : ℕ) → table_from i (suc n) f ≡ table_from i n f ++ f (i + n) ∷ []
  unfolding table_from
  more_from i zero = rw (add-zero i)
  more_from i (suc n) = let z : suc i + n ≡ i + suc n = omega arith in rw (← z) (ap (λ (t : List ℕ). f i ∷ t) (more_from (suc i) n))

  table_more : (n : ℕ) → table (n + 1) f ≡ table n f ++ f n ∷ []
  unfolding table
  table_more n = rw (add-one n) (more_from 0 n ∙ rw (zero-add n))

  pub each_none : (m : ℕ) (ys : List ℕ) → ys ≡ replicate m 0 → ys ≡ slots m (table 0 f)
  unfolding slots table table_from
  each_none m ys p = p ∙ blank_table m 0

  pub each_more : (m i v : ℕ) (ys : List ℕ) → ys ≡ slots m (table i f) → v ≡ f i → set ys i v ≡ slots m (table (i + 1) f)
  each_more m i v ys p q = rw (q, table_more i) (push m i (f i) (table i f) ys p (sym (length_table f i)))

  pub each_end : (m n i : ℕ) (ys : List ℕ) → ys ≡ slots m (table i f) → i ≤ n → n ≤ i → ys ≡ slots m (table n f)
  each_end m n i ys p l g = let e : i ≡ n = omega arith in rw (← e) p

-- ---- a list, and then g of each index below n that passes

unfoldable pub extended : List ℕ → (ℕ → ℕ) → (ℕ → Bool) → ℕ → List ℕ
extended xs g p n = xs ++ map g (indices p n)

module _ (xs : List ℕ) (g : ℕ → ℕ) (p : ℕ → Bool) where
  map_end : (ys : List ℕ) (y : ℕ) → map g (ys ++ y ∷ []) ≡ map g ys ++ g y ∷ []
  map_end [] y = refl
  map_end (x ∷ ys) y = ap (λ (t : List ℕ). g x ∷ t) (map_end ys y)

  start : extended xs g p 0 ≡ xs
  unfolding extended indices
  start = append-nil xs

  yes : (e : ℕ) → p e ≡ true → extended xs g p (e + 1) ≡ extended xs g p e ++ g e ∷ []
  unfolding extended indices pick
  yes e h = rw (add-one e, h, map_end (indices p e) e) (sym (append_assoc xs (map g (indices p e)) (g e ∷ [])))

  no : (e : ℕ) → p e ≡ false → extended xs g p (e + 1) ≡ extended xs g p e
  unfolding extended indices pick
  no e h = rw (add-one e, h, append-nil (indices p e))

  pub also_none : (m : ℕ) (ys : List ℕ) → ys ≡ slots m xs → ys ≡ slots m (extended xs g p 0)
  also_none m ys h = rw start h

  pub count_none : (i : ℕ) → i ≡ length xs → i ≡ length (extended xs g p 0)
  count_none i h = rw start h

  module _ (e : ℕ) (b : Bool) (q : b ≡ p e) where
    module _ (t : b ≡ true) where
      pub also_yes : (m i v : ℕ) (ys : List ℕ) → ys ≡ slots m (extended xs g p e) → i ≡ length (extended xs g p e) → v ≡ g e
          → set ys i v ≡ slots m (extended xs g p (e + 1))
      also_yes m i v ys h j r = rw (r, yes e (sym q ∙ t)) (push m i (g e) (extended xs g p e) ys h j)

      pub count_yes : (i : ℕ) → i ≡ length (extended xs g p e) → i + 1 ≡ length (extended xs g p (e + 1))
      count_yes i j = rw (yes e (sym q ∙ t), length-append, j)

    module _ (t : b ≡ false) where
      pub also_no : (m : ℕ) (ys : List ℕ) → ys ≡ slots m (extended xs g p e) → ys ≡ slots m (extended xs g p (e + 1))
      also_no m ys h = rw (no e (sym q ∙ t)) h

      pub count_no : (i : ℕ) → i ≡ length (extended xs g p e) → i ≡ length (extended xs g p (e + 1))
      count_no i j = rw (no e (sym q ∙ t)) j

-- for `search (needs, eachs)` and `search (needs, alsos)` at every need of a loop that appends
pub ruleset eachs = (each_none, each_more, each_end)

pub ruleset alsos = (also_none, count_none, also_yes, count_yes, also_no, count_no)
