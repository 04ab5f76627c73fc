-- A choice by a test, and the connectives. They are shut, so that a lemma's `_` is solved from a goal that shows them.
use Rattle.std.specs.Prelude.{◌≡◌, Bool}
use Rattle.std.proofs.Math.Path.{refl}
use Rattle.std.proofs.Math.Bool.{true, false}

infixl 35 ◌and◌
infixl 30 ◌or◌
unfoldable pub ◌and◌ : Bool → Bool → Bool
true and b = b
false and b = false

unfoldable pub ◌or◌ : Bool → Bool → Bool
true or b = true
false or b = b

module _ {A : Type 0} where
  unfoldable pub pick : Bool → A → A → A
  pick true x y = x
  pick false x y = y

-- the branch that a test chose, with what the test gave
module _ {A : Type 0} (P : A → Type 0) where
  pub by_test : (b : Bool) {x y : A} → (b ≡ true → P x) → (b ≡ false → P y) → P (pick b x y)
  unfolding pick
  by_test true p q = p refl
  by_test false p q = q refl

pub and_left : (a b : Bool) → (a and b) ≡ true → a ≡ true
unfolding ◌and◌
and_left true b e = refl
and_left false b e = e

pub and_right : (a b : Bool) → (a and b) ≡ true → b ≡ true
unfolding ◌and◌
and_right true b e = e
and_right false b e = cc
