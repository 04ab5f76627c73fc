-- A list under a function, a list with one element more, and the list of the indices that pass a test.
use Rattle.std.specs.Prelude.{ℕ, zero, suc, ◌+◌, ◌<◌, ◌≡◌, refl, Bool, true, false, List, [], ◌∷◌, ◌++◌, map, length, get_or}
use Rattle.std.proofs.Common.{ap, ◌∙◌, append-nil, le_of_suc-le-suc, not-suc-le-zero, length-append}
use Rattle.laws.specs.Choice.{pick}
use Rattle.laws.specs.Fold.{up_to, bit, count_to}
use Rattle.laws.specs.Listed.{indices}

module _ {A B : Type 0} (g : A → B) where
  pub get_d_map : (xs : List A) (k : ℕ) (a : A) (b : B) → k < length xs → get_or (map g xs) k b ≡ g (get_or xs k a)
  get_d_map [] k a b l = absurd (not-suc-le-zero l)
  get_d_map (x ∷ xs) zero a b l = refl
  get_d_map (x ∷ xs) (suc k) a b l = get_d_map xs k a b (le_of_suc-le-suc l)

  -- one more element stands at the end, and all else as before
  module _ (y : A) (b : B) where
    pub map_end : (xs : List A) → get_or (map g (xs ++ y ∷ [])) (length xs) b ≡ g y
    map_end [] = refl
    map_end (x ∷ xs) = map_end xs

    pub map_rest : (xs : List A) (k : ℕ) → (k ≡ length xs → ⊥) → get_or (map g xs) k b ≡ get_or (map g (xs ++ y ∷ [])) k b
    map_rest [] zero h = absurd (h refl)
    map_rest [] (suc k) h = refl
    map_rest (x ∷ xs) zero h = refl
    map_rest (x ∷ xs) (suc k) h = map_rest xs k (λ q. h (ap suc q))

module _ (p : ℕ → Bool) (n : ℕ) where
  pub indices_more : p n ≡ true → indices p (suc n) ≡ indices p n ++ n ∷ []
  unfolding indices pick
  indices_more h = rw h

  pub indices_skip : p n ≡ false → indices p (suc n) ≡ indices p n
  unfolding indices pick
  indices_skip h = rw h (append-nil (indices p n))

length_pick : (xs : List ℕ) (n : ℕ) (b : Bool) → length (xs ++ pick b (n ∷ []) []) ≡ length xs + bit b
unfolding pick
length_pick xs n true = length-append xs (n ∷ [])
length_pick xs n false = length-append xs []

pub length_indices : (p : ℕ → Bool) (n : ℕ) → length (indices p n) ≡ count_to p n
unfolding indices up_to
length_indices p zero = refl
length_indices p (suc n) = length_pick (indices p n) n (p n) ∙ ap (λ (m : ℕ). m + bit (p n)) (length_indices p n)
