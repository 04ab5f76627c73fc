-- Alternatives in order: which of them answers, and what it says of each that none does.
use Prim.Native.Nat.{ℕ, zero, suc, ◌<◌}
use Rattle.std.specs.Prelude.{◌≡◌, Bool, true, false, eqb}
use Rattle.std.proofs.Math.Path.{refl}
use Rattle.std.proofs.Math.Option.{Option, none, some}
use Rattle.std.proofs.Common.{not-suc-le-zero, arith, eqb-true}
use Rattle.std.proofs.lemmas.Bool.{eqb-false}
use Rattle.laws.specs.First.{first, or_else}

module _ {B : Type 0} where
  pub or_else_assoc : (a b c : Option B) → or_else (or_else a b) c ≡ or_else a (or_else b c)
  or_else_assoc none b c = refl
  or_else_assoc (some x) b c = refl

  pub none_first : (a b : Option B) → or_else a b ≡ none → a ≡ none
  none_first none b h = refl
  none_first (some x) b h = h

  pub none_next : (a b : Option B) → or_else a b ≡ none → b ≡ none
  none_next none b h = h
  none_next (some x) b h = cc

  module _ (f : ℕ → Option B) where
    at_last : (n k : ℕ) (b : Bool) → eqb k n ≡ b → k < suc n → f n ≡ none → (k < n → f k ≡ none) → f k ≡ none
    at_last n k true t l h below = rw (eqb-true k n t) h
    at_last n k false t l h below = below (let z : k ≡ n → ⊥ = eqb-false k n t in omega arith)

    -- none below n answers
    pub first_each : (n k : ℕ) → first n f ≡ none → k < n → f k ≡ none
    unfolding first
    first_each zero k h l = absurd (not-suc-le-zero l)
    first_each (suc n) k h l =
        at_last n k (eqb k n) refl l (none_next (first n f) (f n) h) (first_each n k (none_first (first n f) (f n) h))
