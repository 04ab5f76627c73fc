-- A walk over the list of the indices that pass a test is the fold over all indices that leaves the others out.
use Prim.Native.Nat.{ℕ, zero, suc, ◌+◌, ◌<◌}
use Rattle.std.specs.Prelude.{◌≡◌, Bool, length, get_or}
use Rattle.std.proofs.Math.Path.{refl, ap}
use Rattle.std.proofs.Common.{sym, ◌∙◌, add-zero, arith, length-append}
use Rattle.std.proofs.Math.Bool.{true, false}
use mathlib.Core.List.{List, [], ◌∷◌, ◌++◌}
use Rattle.std.proofs.Math.Option.{Option, none, some}
use Rattle.std.proofs.Math.Numerals.{add-one}
use Rattle.std.proofs.Math.ListN.{get_or-append}
use Rattle.std.proofs.Math.Seq.{get_or-append_seam}
use Rattle.laws.specs.Choice.{◌and◌, pick}
use Rattle.laws.specs.Fold.{up_to, bit, count_to}
use Rattle.laws.specs.First.{first, or_else}
use Rattle.laws.specs.Listed.{indices}
use Rattle.laws.specs.Lists.{indices_more, indices_skip}

module _ {A : Type 0} where
  -- a fold sees only what f gives below n
  pub up_to_same : (f g : ℕ → A → A) (a : A) (n : ℕ) → ((k : ℕ) (c : A) → k < n → f k c ≡ g k c) → up_to f a n ≡ up_to g a n
  unfolding up_to
  up_to_same f g a zero h = refl
  up_to_same f g a (suc n) h = rw (h n (up_to f a n) (omega arith), up_to_same f g a n (λ k c l. h k c (omega arith)))

  module _ (f : ℕ → A → A) (a : A) where
    -- over the elements of a list
    along : List ℕ → A
    along xs = up_to (λ k c. f (get_or xs k 0) c) a (length xs)

    along_more : (xs : List ℕ) (y : ℕ) → along (xs ++ y ∷ []) ≡ f y (along xs)
    unfolding along up_to
    along_more xs y =
        rw (length-append xs (y ∷ []), add-one (length xs), get_or-append_seam xs y [] 0)
        (ap (f y) (up_to_same (λ k c. f (get_or (xs ++ y ∷ []) k 0) c) (λ k c. f (get_or xs k 0) c) a (length xs)
        (λ k c l. ap (λ (x : ℕ). f x c) (get_or-append xs (y ∷ []) 0 k l))))

    along_indices : (p : ℕ → Bool) (n : ℕ) (b : Bool) → p n ≡ b → along (indices p (suc n)) ≡ pick b (f n (along (indices p n))) (along (indices p n))
    unfolding pick
    along_indices p n true h = rw (indices_more p n h) (along_more (indices p n) n)
    along_indices p n false h = rw (indices_skip p n h)

    walk : (p : ℕ → Bool) (n : ℕ) → along (indices p n) ≡ up_to (λ k c. pick (p k) (f k c) c) a n
    unfolding along up_to indices
    walk p zero = refl
    walk p (suc n) = along_indices p n (p n) refl ∙ ap (λ (c : A). pick (p n) (f n c) c) (walk p n)

    pub walk_indices : (p : ℕ → Bool) (n : ℕ) → up_to (λ k c. f (get_or (indices p n) k 0) c) a (length (indices p n)) ≡ up_to (λ k c. pick (p k) (f k c) c) a n
    unfolding along
    walk_indices p n = walk p n

-- ---- the folds of a count and of a first

pick_count : (b c : Bool) (n : ℕ) → pick b (n + bit c) n ≡ n + bit (b and c)
unfolding pick ◌and◌
pick_count true c n = refl
pick_count false c n = sym (add-zero n)

pub count_picked : (p q : ℕ → Bool) (n : ℕ) → up_to (λ k c. pick (p k) (c + bit (q k)) c) 0 n ≡ count_to (λ k. p k and q k) n
count_picked p q n = up_to_same (λ k c. pick (p k) (c + bit (q k)) c) (λ k c. c + bit (p k and q k)) 0 n (λ k c l. pick_count (p k) (q k) c)

module _ {B : Type 0} where
  pub first_fold : (n : ℕ) (f : ℕ → Option B) → first n f ≡ up_to (λ k c. or_else c (f k)) none n
  unfolding first up_to
  first_fold zero f = refl
  first_fold (suc n) f = rw (first_fold n f)

  or_none : (c : Option B) → c ≡ or_else c none
  or_none none = refl
  or_none (some b) = refl

  pick_first : (b : Bool) (c d : Option B) → pick b (or_else c d) c ≡ or_else c (pick b d none)
  unfolding pick
  pick_first true c d = refl
  pick_first false c d = or_none c

  pub first_picked : (p : ℕ → Bool) (f : ℕ → Option B) (n : ℕ) → up_to (λ k c. pick (p k) (or_else c (f k)) c) none n ≡ first n (λ k. pick (p k) (f k) none)
  first_picked p f n =
      up_to_same (λ k c. pick (p k) (or_else c (f k)) c) (λ k c. or_else c (pick (p k) (f k) none)) none n (λ k c l. pick_first (p k) c (f k))
      ∙ sym (first_fold n (λ k. pick (p k) (f k) none))
