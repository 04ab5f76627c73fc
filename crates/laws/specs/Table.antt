-- Tables that a loop fills from the front.
--     table n f        f 0, f 1, .. f (n - 1)
--     paint n f xs     xs with its entries 0 .. n - 1 replaced by f 0, f 1, ..; what lies beyond n stays
-- Each reads by its own index, so that a table of n entries is computed in n steps.
use Prim.Native.Nat.{ℕ, zero, suc, ◌+◌, ◌≤◌, ◌<◌}
use Rattle.std.specs.Prelude.{◌≡◌, length, get_or}
use Rattle.std.proofs.Math.Path.{refl, ap, subst}
use Rattle.std.proofs.Common.{sym, ◌∙◌, add-zero, zero-add, add-suc, suc-add, le_of_suc-le-suc, not-suc-le-zero, arith}
use mathlib.Core.List.{List, [], ◌∷◌}
use Rattle.std.proofs.Math.Numerals.{add-one}
use Rattle.std.proofs.Math.ListN.{set}

module _ {A : Type 0} where
  unfoldable pub table_from : ℕ → ℕ → (ℕ → A) → List A
  table_from i zero f = []
  table_from i (suc n) f = f i ∷ table_from (suc i) n f

  unfoldable pub table : ℕ → (ℕ → A) → List A
  unfolding table_from
  table n f = table_from 0 n f

  unfoldable pub paint_from : ℕ → ℕ → (ℕ → A) → List A → List A
  paint_from i zero f xs = xs
  paint_from i (suc n) f [] = []
  paint_from i (suc n) f (x ∷ xs) = f i ∷ paint_from (suc i) n f xs

  unfoldable pub paint : ℕ → (ℕ → A) → List A → List A
  unfolding paint_from
  paint n f xs = paint_from 0 n f xs

-- what stands at index i + k when the walk is k steps past i
next_index : {A : Type 0} (f : ℕ → A) (i k : ℕ) → f (suc i + k) ≡ f (i + suc k)
next_index f i k = ap f (suc-add i k ∙ sym (add-suc i k))

first_index : {A : Type 0} (f : ℕ → A) (i : ℕ) → f i ≡ f (i + 0)
first_index f i = ap f (sym (add-zero i))

module _ {A : Type 0} (f : ℕ → A) where
  length_table_from : (i n : ℕ) → length (table_from i n f) ≡ n
  unfolding table_from
  length_table_from i zero = refl
  length_table_from i (suc n) = ap suc (length_table_from (suc i) n)

  pub length_table : (n : ℕ) → length (table n f) ≡ n
  unfolding table
  length_table n = length_table_from 0 n

  get_or_table_from : (i n k : ℕ) (d : A) → k < n → get_or (table_from i n f) k d ≡ f (i + k)
  unfolding table_from
  get_or_table_from i zero k d h = absurd (not-suc-le-zero h)
  get_or_table_from i (suc n) zero d h = first_index f i
  get_or_table_from i (suc n) (suc k) d h = get_or_table_from (suc i) n k d (le_of_suc-le-suc h) ∙ next_index f i k

  pub get_or_table : (n k : ℕ) (d : A) → k < n → get_or (table n f) k d ≡ f k
  unfolding table
  get_or_table n k d h = get_or_table_from 0 n k d h ∙ ap f (zero-add k)

  length_paint_from : (i n : ℕ) (xs : List A) → length (paint_from i n f xs) ≡ length xs
  unfolding paint_from
  length_paint_from i zero xs = refl
  length_paint_from i (suc n) [] = refl
  length_paint_from i (suc n) (x ∷ xs) = ap suc (length_paint_from (suc i) n xs)

  pub length_paint : (n : ℕ) (xs : List A) → length (paint n f xs) ≡ length xs
  unfolding paint
  length_paint n xs = length_paint_from 0 n xs

  painted_at : (i n : ℕ) (xs : List A) (k : ℕ) (d : A) → k < n → k < length xs → get_or (paint_from i n f xs) k d ≡ f (i + k)
  unfolding paint_from
  painted_at i zero xs k d h l = absurd (not-suc-le-zero h)
  painted_at i (suc n) [] k d h l = absurd (not-suc-le-zero l)
  painted_at i (suc n) (x ∷ xs) zero d h l = first_index f i
  painted_at i (suc n) (x ∷ xs) (suc k) d h l = painted_at (suc i) n xs k d (le_of_suc-le-suc h) (le_of_suc-le-suc l) ∙ next_index f i k

  -- below n, and inside the list, the new entry
  pub get_or_painted : (n : ℕ) (xs : List A) (k : ℕ) (d : A) → k < n → k < length xs → get_or (paint n f xs) k d ≡ f k
  unfolding paint
  get_or_painted n xs k d h l = painted_at 0 n xs k d h l ∙ ap f (zero-add k)

  -- an entry at any index: a new one, or what stood there
  module _ (P : A → Type 0) (d : A) where
    paint_from_at : (i n : ℕ) (xs : List A) (k : ℕ) → (k < n → P (f (i + k))) → P (get_or xs k d) → P (get_or (paint_from i n f xs) k d)
    unfolding paint_from
    paint_from_at i zero xs k new old = old
    paint_from_at i (suc n) [] k new old = old
    paint_from_at i (suc n) (x ∷ xs) zero new old = subst P (sym (first_index f i)) (new (omega arith))
    paint_from_at i (suc n) (x ∷ xs) (suc k) new old =
        paint_from_at (suc i) n xs k (λ l. subst P (sym (next_index f i k)) (new (omega arith))) old

    pub paint_at : (n : ℕ) (xs : List A) (k : ℕ) → (k < n → P (f k)) → P (get_or xs k d) → P (get_or (paint n f xs) k d)
    unfolding paint
    paint_at n xs k new old = paint_from_at 0 n xs k (λ l. subst P (sym (ap f (zero-add k))) (new l)) old

  -- ---- what a loop's turns ask

  set_paint_from : (i n : ℕ) (xs : List A) → set (paint_from i n f xs) n (f (i + n)) ≡ paint_from i (suc n) f xs
  unfolding paint_from
  set_paint_from i zero [] = refl
  set_paint_from i zero (x ∷ xs) = ap (λ (y : A). y ∷ xs) (sym (first_index f i))
  set_paint_from i (suc n) [] = refl
  set_paint_from i (suc n) (x ∷ xs) =
      ap (λ (y : A). f i ∷ set (paint_from (suc i) n f xs) n y) (sym (next_index f i n)) ∙ ap (λ (t : List A). f i ∷ t) (set_paint_from (suc i) n xs)

  pub paint_none : (xs : List A) → xs ≡ paint 0 f xs
  unfolding paint paint_from
  paint_none xs = refl

  -- painted up to i, with v, which is f i, stored at i
  pub paint_step : (xs : List A) (i : ℕ) (v : A) {ys : List A} → ys ≡ paint i f xs → v ≡ f i → set ys i v ≡ paint (i + 1) f xs
  unfolding paint
  paint_step xs i v p q = rw (p, q, add-one i) (ap (λ (y : A). set (paint_from 0 i f xs) i y) (sym (ap f (zero-add i))) ∙ set_paint_from 0 i xs)

  pub paint_end : (n : ℕ) (xs : List A) (i : ℕ) {ys : List A} → ys ≡ paint i f xs → i ≤ n → n ≤ i → ys ≡ paint n f xs
  paint_end n xs i p l g = let e : i ≡ n = omega arith in rw (← e) p

-- what is painted is seen below n only
module _ {A : Type 0} (f g : ℕ → A) where
  paint_from_same : (i n : ℕ) (xs : List A) → ((k : ℕ) → i ≤ k → k < i + n → f k ≡ g k) → paint_from i n f xs ≡ paint_from i n g xs
  unfolding paint_from
  paint_from_same i zero xs h = refl
  paint_from_same i (suc n) [] h = refl
  paint_from_same i (suc n) (x ∷ xs) h = rw (h i (omega arith) (omega arith), paint_from_same (suc i) n xs (λ k a b. h k (omega arith) (omega arith)))

  pub paint_same : (n : ℕ) (xs : List A) → ((k : ℕ) → k < n → f k ≡ g k) → paint n f xs ≡ paint n g xs
  unfolding paint
  paint_same n xs h = paint_from_same 0 n xs (λ k a b. h k (omega arith))

-- for `search (needs, fills)` at every need of a loop that fills a table
pub ruleset fills = (paint_none, paint_step, paint_end)
