-- Folds over the indices 0 .. n - 1: `up_to f a n` is f (n - 1) (.. (f 1 (f 0 a))), what a loop over 0..n holds after its turns.
use Prim.Native.Nat.{ℕ, zero, suc, ◌+◌, ◌≤◌, ◌<◌}
use Rattle.std.specs.Prelude.{◌≡◌, Bool, true, false}
use Rattle.std.proofs.Common.{sym, eq-or-lt_of_le, le_of_suc-le-suc, not-suc-le-zero, arith}
use Rattle.std.proofs.Math.Path.{subst}
use Rattle.std.proofs.Math.Logic.{⊎_elim}
use Rattle.laws.specs.Choice.{◌and◌, ◌or◌}

module _ {A : Type 0} where
  unfoldable pub up_to : (ℕ → A → A) → A → ℕ → A
  up_to f a zero = a
  up_to f a (suc n) = f n (up_to f a n)

abbrev pub bit : Bool → ℕ
bit true = 1
bit false = 0

-- how many places below n pass the test; whether one does; whether all do
abbrev pub count_to : (ℕ → Bool) → ℕ → ℕ
count_to p n = up_to (λ k a. a + bit (p k)) 0 n

abbrev pub any_to : (ℕ → Bool) → ℕ → Bool
any_to p n = up_to (λ k a. a or p k) false n

abbrev pub all_to : (ℕ → Bool) → ℕ → Bool
all_to p n = up_to (λ k a. a and p k) true n

pub bit_most : (b : Bool) → bit b ≤ 1
bit_most true = omega arith
bit_most false = omega arith

pub count_most : (p : ℕ → Bool) (n : ℕ) → count_to p n ≤ n
unfolding up_to
count_most p zero = omega arith
count_most p (suc n) = omega (arith, count_most p n, bit_most (p n))

module _ {A : Type 0} (f : ℕ → A → A) (a : A) where
  -- what the start has and each turn keeps
  pub up_to_keeps : (P : A → Type 0) → P a → ((k : ℕ) (b : A) → P b → P (f k b)) → (n : ℕ) → P (up_to f a n)
  unfolding up_to
  up_to_keeps P start turn zero = start
  up_to_keeps P start turn (suc n) = turn n (up_to f a n) (up_to_keeps P start turn n)

-- where each turn splits what holds after it into what held before and the turn's own part
module _ {A : Type 0} (P : A → Type 0) (R : ℕ → Type 0) (f : ℕ → A → A) (split : (k : ℕ) (a : A) → P (f k a) → P a × R k) where
  pub up_to_first : (a : A) (n : ℕ) → P (up_to f a n) → P a
  unfolding up_to
  up_to_first a zero h = h
  up_to_first a (suc n) h = up_to_first a n (split n (up_to f a n) h).0

  pub up_to_each : (a : A) (n : ℕ) → P (up_to f a n) → (k : ℕ) → k < n → R k
  unfolding up_to
  up_to_each a zero h k l = absurd (not-suc-le-zero l)
  up_to_each a (suc n) h k l =
      ⊎_elim (λ (q : k ≡ n). subst R (sym q) (split n (up_to f a n) h).1) (λ q. up_to_each a n (split n (up_to f a n) h).0 k q)
      (eq-or-lt_of_le (le_of_suc-le-suc l))
