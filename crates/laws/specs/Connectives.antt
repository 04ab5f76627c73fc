-- The code's `&` and `|` of two truth values are the connectives of specs/Choice.antt.
use Rattle.std.specs.Prelude.{◌≡◌, refl, Bool, true, false, ◌&&◌, ◌||◌}
use Rattle.laws.specs.Choice.{◌and◌, ◌or◌}

pub and_is : (a b : Bool) → (a && b) ≡ (a and b)
unfolding ◌and◌
and_is true b = refl
and_is false b = refl

pub or_is : (a b : Bool) → (a || b) ≡ (a or b)
unfolding ◌or◌
or_is true b = refl
or_is false b = refl

-- what a disjunction that failed says of its parts
pub or_first : (a b : Bool) → (a or b) ≡ false → a ≡ false
unfolding ◌or◌
or_first true b h = h
or_first false b h = refl

pub or_second : (a b : Bool) → (a or b) ≡ false → b ≡ false
unfolding ◌or◌
or_second true b h = cc
or_second false b h = h

pub or_true : (a b : Bool) → b ≡ true → (a or b) ≡ true
unfolding ◌or◌
or_true true b h = refl
or_true false b h = h
