-- The first index below n at which f answers, and what it answers there.
use Prim.Native.Nat.{ℕ, zero, suc, ◌+◌, ◌<◌}
use Rattle.std.specs.Prelude.{◌≡◌}
use Rattle.std.proofs.Math.Path.{refl, ap}
use Rattle.std.proofs.Common.{◌∙◌, eq-or-lt_of_le, le_of_suc-le-suc, not-suc-le-zero, arith, add-one}
use Rattle.std.proofs.Math.Logic.{⊎_elim}
use Rattle.std.proofs.Math.Option.{Option, none, some}
use Rattle.std.proofs.Math.Decide.{le_ind}

module _ {B : Type 0} where
  abbrev pub or_else : Option B → Option B → Option B
  or_else none b = b
  or_else (some a) b = some a

  unfoldable pub first : ℕ → (ℕ → Option B) → Option B
  first zero f = none
  first (suc n) f = or_else (first n f) (f n)

  pub first_none : (f : ℕ → Option B) → first 0 f ≡ none
  unfolding first
  first_none f = refl

  -- none below i, and none at i
  pub first_pass : (i : ℕ) (f : ℕ → Option B) → first i f ≡ none → f i ≡ none → first (i + 1) f ≡ none
  unfolding first
  first_pass i f p q = rw (add-one i) (rw p q)

  -- none below i, and b at i: b is the first below any n above i
  pub first_stop : (i n : ℕ) (f : ℕ → Option B) (b : B) → i < n → first i f ≡ none → f i ≡ some b → first n f ≡ some b
  unfolding first
  first_stop i n f b l p q = le_ind (λ (m : ℕ). first m f ≡ some b) (rw p q) (λ m k e. rw e refl) n l

  none_left : (a b : Option B) → or_else a b ≡ none → a ≡ none
  none_left none b h = refl
  none_left (some x) b h = h

  none_right : (a b : Option B) → or_else a b ≡ none → b ≡ none
  none_right none b h = h
  none_right (some x) b h = let z : ◌≡◌ {A = ℕ} 0 1 = cc in let y : ⊥ = omega arith in absurd y

  -- none below n: none at any k below n
  pub first_at : (n : ℕ) (f : ℕ → Option B) → first n f ≡ none → (k : ℕ) → k < n → f k ≡ none
  unfolding first
  first_at zero f h k l = absurd (not-suc-le-zero l)
  first_at (suc n) f h k l =
      ⊎_elim (λ (q : k ≡ n). ap f q ∙ none_right (first n f) (f n) h) (λ q. first_at n f (none_left (first n f) (f n) h) k q)
      (eq-or-lt_of_le (le_of_suc-le-suc l))

  -- what every answer has, the first one has
  pub first_has : (P : Option B → Type 0) → P none → (n : ℕ) (f : ℕ → Option B) → ((k : ℕ) → k < n → P (f k)) → P (first n f)
  unfolding first
  first_has P e zero f each = e
  first_has P e (suc n) f each = one (first n f) (first_has P e n f (λ k l. each k (omega arith)))
    where
      one : (a : Option B) → P a → P (or_else a (f n))
      one none p = each n (omega arith)
      one (some b) p = p
