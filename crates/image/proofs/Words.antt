-- A value that a flag keeps or hides.
use Rattle.std.proofs.Common.{◌≡◌, ℕ, Bool, true, false}
use Rattle.laws.specs.Choice.{pick}

module _ (t : Bool) (x y : ℕ) where
  pub kept : t ≡ true → x ≡ pick t x y
  unfolding pick
  kept h = rw h

  pub hidden : t ≡ false → y ≡ pick t x y
  unfolding pick
  hidden h = rw h

pub ruleset flags = (kept, hidden)
