-- What tests that came out say of a definition that makes the same tests: for `search (needs, tests)` at a return.
use Rattle.std.specs.Prelude.{◌≡◌, refl, Bool, true, false, not}
use Rattle.std.proofs.Common.{sym, ◌∙◌, eq-eqb, ne_eqb, lt-ltb, le-ltb, le-leb}
use Rattle.std.proofs.lemmas.Bool.{lt-leb}
use Rattle.laws.specs.Choice.{◌and◌, ◌or◌, pick}

-- what is returned is the branch that the test chose
module _ {A : Type 0} {r : A} (b : Bool) (x y : A) where
  pub pick_yes : b ≡ true → r ≡ x → r ≡ pick b x y
  unfolding pick
  pick_yes h e = rw h e

  pub pick_no : b ≡ false → r ≡ y → r ≡ pick b x y
  unfolding pick
  pick_no h e = rw h e

-- what is returned is a test that the other one leaves open
module _ {r : Bool} (a b : Bool) where
  pub and_on : a ≡ true → r ≡ b → r ≡ (a and b)
  unfolding ◌and◌
  and_on h e = rw h e

  pub or_on : a ≡ false → r ≡ b → r ≡ (a or b)
  unfolding ◌or◌
  or_on h e = rw h e

-- what is returned is a test's value
pub yes : (b : Bool) → b ≡ true → true ≡ b
yes b h = sym h

pub no : (b : Bool) → b ≡ false → false ≡ b
no b h = sym h

-- a test's value
pub both : (a b : Bool) → a ≡ true → b ≡ true → (a and b) ≡ true
unfolding ◌and◌
both a b p q = rw (p, q)

pub not_first : (a b : Bool) → a ≡ false → (a and b) ≡ false
unfolding ◌and◌
not_first a b p = rw p

pub not_second : (a b : Bool) → b ≡ false → (a and b) ≡ false
unfolding ◌and◌
not_second true b q = q
not_second false b q = refl

pub the_first : (a b : Bool) → a ≡ true → (a or b) ≡ true
unfolding ◌or◌
the_first a b p = rw p

pub the_second : (a b : Bool) → b ≡ true → (a or b) ≡ true
unfolding ◌or◌
the_second true b q = refl
the_second false b q = q

pub neither : (a b : Bool) → a ≡ false → b ≡ false → (a or b) ≡ false
unfolding ◌or◌
neither a b p q = rw (p, q)

pub not_held : (b : Bool) → b ≡ false → not b ≡ true
not_held b h = rw h

pub not_failed : (b : Bool) → b ≡ true → not b ≡ false
not_failed b h = rw h

-- a callee's flag f that is the test b
pub flag : {f b v : Bool} → f ≡ b → f ≡ v → b ≡ v
flag p q = sym p ∙ q

pub ruleset tests =
    (pick_yes, pick_no, and_on, or_on, yes, no, both, not_first, not_second, the_first, the_second, neither, not_held, not_failed, flag, eq-eqb, ne_eqb, lt-ltb, le-ltb, le-leb, lt-leb)
