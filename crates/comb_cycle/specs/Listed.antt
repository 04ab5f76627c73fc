-- The vertices that show Grow, by number, from the start of a table on.
use Rattle.std.specs.Prelude.{ℕ, Bool, List, set}
use Rattle.laws.specs.Fold.{up_to, count_to}
use Rattle.rules.specs.Registers.{at, growing}

-- whether v shows Grow
abbrev pub grows_at : List ℕ → ℕ → Bool
grows_at ss v = growing (at ss v).speed

-- the table that a walk over the first n leaves: each v is put behind those before it that pass, and the next one over it if it does not
unfoldable pub listed : (ℕ → Bool) → List ℕ → ℕ → List ℕ
listed p xs n = up_to (λ v t. set t (count_to p v) v) xs n
