-- When a replay goes on.
use Rattle.std.specs.Prelude.{ℕ, zero, suc, Bool, true, false}
use Rattle.records.specs.declared.Stop.{Stop}
use Rattle.records.specs.declared.Stop.TheVariants.{WantsBytes, WantsRoom, Ended}

abbrev some_used : ℕ → Bool
some_used zero = false
some_used (suc n) = true

-- it ended, it waits for bytes, or it waits for room, which writing its lines gives where there are any
abbrev pub gets_on : Stop → ℕ → Bool
gets_on Ended used = false
gets_on WantsBytes used = true
gets_on WantsRoom used = some_used used
