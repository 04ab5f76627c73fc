-- The pair list of lent flags.
use Rattle.std.specs.Prelude.{Bool, List, []}
use Rattle.rules.specs.declared.state.State.{State}

-- a state with these flags: nothing else of it is listed
abbrev pub with_pairs : List Bool → State
with_pairs flags = record { registers = []; weights = []; stalled = flags; maximum = 0 }
