-- A decoder's state: the first one, and what a reset leaves.
use Rattle.std.specs.Prelude.{ℕ, false, List, replicate}
use Rattle.laws.specs.Choice.{◌or◌}
use Rattle.laws.specs.Table.{paint}
use Rattle.rules.specs.Graph.{has_layer, is_default_virtual, in_use}
use Rattle.rules.specs.Registers.{keep, fresh}
use Rattle.rules.specs.declared.graph.Graph.{Graph}
use Rattle.rules.specs.declared.state.State.{State}

-- "With fusion on, every vertex with a layer starts virtual". Beyond the vertices in use stand zeros
unfoldable pub fresh_registers : List ℕ → ℕ → List ℕ
fresh_registers vs nv = paint nv (λ v. keep (fresh (has_layer vs v or is_default_virtual vs v))) (replicate 256 0)

abbrev pub with_maximum : ℕ → State → State
with_maximum m s = record { registers = s.registers; weights = s.weights; stalled = s.stalled; maximum = m }

-- "Reset does this and empties the pair list; it keeps the maximum"
unfoldable pub fresh_state : Graph → ℕ → State
fresh_state g m = record {
  registers = fresh_registers g.vertices (in_use g).nv;
  weights = g.weights;
  stalled = replicate 1_024 false;
  maximum = m;
}

unfoldable pub reset : Graph → State → State
reset g s = fresh_state g s.maximum

-- "The first maximum is no limit"
unfoldable pub first_state : Graph → State
first_state g = fresh_state g 2_147_483_647
