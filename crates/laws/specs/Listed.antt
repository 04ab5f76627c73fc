-- The indices below n that pass a test, in order, and a list that stands at the start of an array.
--     indices p n      those indices
--     slots m xs       an array of m: xs from its start, and 0 after it
use Rattle.std.specs.Prelude.{ℕ, zero, suc, Bool, List, [], ◌∷◌, ◌++◌, get_or}
use Rattle.laws.specs.Choice.{pick}
use Rattle.laws.specs.Table.{table}

unfoldable pub indices : (ℕ → Bool) → ℕ → List ℕ
indices p zero = []
indices p (suc n) = indices p n ++ pick (p n) (n ∷ []) []

unfoldable pub slots : ℕ → List ℕ → List ℕ
slots m xs = table m (λ k. get_or xs k 0)
