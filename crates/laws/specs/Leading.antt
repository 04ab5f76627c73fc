-- How many indices from 0 on pass a test: the first below n that fails ends them.
use Prim.Native.Nat.{ℕ, zero, suc, ◌+◌, ◌≤◌, ◌<◌}
use Rattle.std.specs.Prelude.{◌≡◌, Bool, eqb}
use Rattle.std.proofs.Math.Path.{refl}
use Rattle.std.proofs.Math.Bool.{true, false}
use Rattle.std.proofs.Math.Decide.{le_ind}
use Rattle.std.proofs.Common.{not-suc-le-zero, add-one}
use native.Mathlib.Omega.{arith}
use borrow.Author.Tests.{eqb-true, eqb-false, eq-eqb, ne_eqb}
use Rattle.laws.specs.Choice.{◌and◌, pick, and_left, and_right}
use Rattle.laws.specs.Fold.{up_to}

abbrev pub leading : (ℕ → Bool) → ℕ → ℕ
leading p n = up_to (λ e m. pick (eqb m e and p e) (suc m) m) 0 n

module _ (p : ℕ → Bool) where
  pub leading_none : leading p 0 ≡ 0
  unfolding up_to
  leading_none = refl

  -- all below i pass, and i does
  pub leading_pass : (i : ℕ) → leading p i ≡ i → p i ≡ true → leading p (i + 1) ≡ i + 1
  unfolding up_to pick ◌and◌
  leading_pass i e h = rw (add-one i, e, eq-eqb i i refl, h)

  -- all below i pass, and i does not
  pub leading_stop : (i n : ℕ) → leading p i ≡ i → p i ≡ false → i < n → leading p n ≡ i
  unfolding up_to pick ◌and◌
  leading_stop i n e h l =
      le_ind (λ (m : ℕ). leading p m ≡ i) (rw (e, eq-eqb i i refl, h)) (λ m k q. rw (q, ne_eqb i m (λ z. omega arith))) n l

  -- all below n pass
  pub leading_all : (n : ℕ) → ((k : ℕ) → k < n → p k ≡ true) → leading p n ≡ n
  unfolding up_to pick ◌and◌
  leading_all zero h = refl
  leading_all (suc n) h = rw (leading_all n (λ k l. h k (omega arith)), eq-eqb n n refl, h n (omega arith))

  grows : (n m : ℕ) (b : Bool) → m ≤ n → pick b (suc m) m ≤ suc n
  unfolding pick
  grows n m true l = omega arith
  grows n m false l = omega arith

  pub leading_le : (n : ℕ) → leading p n ≤ n
  unfolding up_to
  leading_le zero = omega arith
  leading_le (suc n) = grows n (leading p n) (eqb (leading p n) n and p n) (leading_le n)

  last : (n k : ℕ) (b : Bool) → eqb k n ≡ b → p n ≡ true → (k < n → p k ≡ true) → k < suc n → p k ≡ true
  last n k true t h below l = rw (eqb-true k n t) h
  last n k false t h below l = below (let z : k ≡ n → ⊥ = eqb-false k n t in omega arith)

  each : (n m k : ℕ) (b : Bool) → (eqb m n and p n) ≡ b → (k < m → p k ≡ true) → k < pick b (suc m) m → p k ≡ true
  unfolding pick
  each n m k true t below l =
      let z : m ≡ n = eqb-true m n (and_left (eqb m n) (p n) t) in
      last n k (eqb k n) refl (and_right (eqb m n) (p n) t) (λ q. below (omega arith)) (omega arith)
  each n m k false t below l = below l

  -- each index that is counted passes
  pub leading_each : (n k : ℕ) → k < leading p n → p k ≡ true
  unfolding up_to
  leading_each zero k l = absurd (not-suc-le-zero l)
  leading_each (suc n) k l = each n (leading p n) k (eqb (leading p n) n and p n) refl (leading_each n k) l
