-- Stage 6: what edges see of a vertex. xs holds the registers after stage 3, ys those after stage 5.
use Rattle.std.specs.Prelude.{ℕ, Bool, false, List, eqb, get_or}
use Rattle.laws.specs.Choice.{◌and◌, pick}
use Rattle.laws.specs.Table.{paint}
use Rattle.rules.specs.Registers.{at, keep, no_node, shrinking}
use Rattle.rules.specs.Execute.{led, with_speed, waits}
use Rattle.rules.specs.Peer.{peer}
use Rattle.rules.specs.declared.instruction.CompactGrowState.TheVariants.{Stay, Grow}
use Rattle.rules.specs.declared.registers.VertexRegisters.{VertexRegisters}
use Rattle.rules.specs.Types.{PropagatingPeer}
use Rattle.std.specs.Prelude.{None, Some}

-- "if Shrink at grown 0 with a peer, the peer's node, root and Grow"
abbrev pub yield : PropagatingPeer → VertexRegisters → VertexRegisters
yield None x = x
yield (Some lead) x = led Grow lead.node lead.root x

unfoldable pub yielded : PropagatingPeer → VertexRegisters → VertexRegisters
yielded p x = pick (shrinking x.speed and eqb x.grown 0) (yield p x) x

-- the updated node, root, speed, and each "if" of document 01 over the one before
unfoldable pub shadow : PropagatingPeer → Bool → Bool → VertexRegisters → VertexRegisters
shadow p waiting stalled x =
    -- "if stalled, Stay"
    pick stalled (with_speed Stay (pick waiting (led Stay no_node no_node x) (yielded p x)))
    -- "if virtual with a layer, none, none, Stay"
    (pick waiting (led Stay no_node no_node x) (yielded p x))

module _ (vs es fs xs ys : List ℕ) (stalled : List Bool) (ne nv : ℕ) where
  unfoldable pub shadows : List ℕ
  shadows = paint nv (λ v. keep (shadow (peer es fs xs ne v) (waits vs v (at ys v)) (get_or stalled v false) (at ys v))) ys
