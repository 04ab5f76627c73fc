-- A fresh vertex's word.
use Rattle.std.specs.Prelude.{ℕ, List}
use Rattle.laws.specs.Choice.{◌or◌}
use Rattle.rules.specs.Graph.{has_layer, is_default_virtual}
use Rattle.rules.specs.Registers.{keep, fresh}

abbrev pub fresh_word : List ℕ → ℕ → ℕ
fresh_word vs v = keep (fresh (has_layer vs v or is_default_virtual vs v))
