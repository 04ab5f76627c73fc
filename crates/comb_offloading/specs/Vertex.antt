-- A growing defect: `eager` of rules/specs/Units.antt, with nothing but the registers named.
use Rattle.std.specs.Prelude.{ℕ, Bool, List}
use Rattle.laws.specs.Choice.{◌and◌}
use Rattle.rules.specs.Registers.{at, growing}

unfoldable pub eager_by : List ℕ → ℕ → Bool
eager_by rs v = (at rs v).is_defect and growing (at rs v).speed
