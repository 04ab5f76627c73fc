-- Stage 5: the registers that are written. xs holds the registers after stage 3.
use Rattle.std.specs.Prelude.{ℕ, Bool, not, List, eqb}
use Rattle.laws.specs.Choice.{◌and◌, pick}
use Rattle.laws.specs.Table.{paint}
use Rattle.rules.specs.Registers.{at, keep, no_node}
use Rattle.rules.specs.Execute.{led}
use Rattle.rules.specs.Peer.{peer}
use Rattle.rules.specs.declared.instruction.CompactGrowState.TheVariants.{Stay, Grow}
use Rattle.rules.specs.declared.registers.VertexRegisters.{VertexRegisters}
use Rattle.rules.specs.Types.{PropagatingPeer}
use Rattle.std.specs.Prelude.{None, Some}

-- "a vertex neither defect nor virtual with grown 0"
unfoldable pub is_loose : VertexRegisters → Bool
is_loose x = not x.is_defect and not x.is_virtual and eqb x.grown 0

-- "takes the peer's node and root and Grow, or none, none, Stay"
abbrev pub follow : PropagatingPeer → VertexRegisters → VertexRegisters
follow None x = led Stay no_node no_node x
follow (Some lead) x = led Grow lead.node lead.root x

unfoldable pub update : PropagatingPeer → VertexRegisters → VertexRegisters
update p x = pick (is_loose x) (follow p x) x

module _ (es fs xs : List ℕ) (ne nv : ℕ) where
  unfoldable pub updated : List ℕ
  updated = paint nv (λ v. keep (update (peer es fs xs ne v) (at xs v))) xs
