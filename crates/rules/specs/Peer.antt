-- Stage 4: the propagating peer. xs holds the registers after stage 3, fs the fetch weights, which are of the registers before.
use Rattle.std.specs.Prelude.{ℕ, Bool, not, List, eqb}
use Rattle.std.proofs.Math.Option.{Option, none, some}
use Rattle.laws.specs.Choice.{◌and◌, pick}
use Rattle.laws.specs.First.{first}
use Rattle.rules.specs.Graph.{touches, far_end}
use Rattle.rules.specs.Registers.{at, growing}
use Rattle.rules.specs.Fetch.{tight}
use Rattle.rules.specs.declared.registers.VertexRegisters.{VertexRegisters}
use Rattle.rules.specs.Types.{PropagatingPeer}
use Rattle.std.specs.Prelude.{None, Some}

-- "not virtual and has Grow after stage 3"
unfoldable pub is_propagating : VertexRegisters → Bool
is_propagating x = growing x.speed and not x.is_virtual

abbrev pub lead_by : List ℕ → Option ℕ → PropagatingPeer
lead_by xs none = None
lead_by xs (some p) = Some (record { node = (at xs p).node; root = (at xs p).root })

module _ (es fs xs : List ℕ) (ne : ℕ) where
  -- "tight on new grown amounts and old fetch weight"
  unfoldable pub serves : ℕ → ℕ → Bool
  serves v e = is_propagating (at xs (far_end es v e)) and tight es xs fs e

  unfoldable pub served_by : ℕ → ℕ → Option ℕ
  served_by v e = pick (touches es v e and serves v e) (some (far_end es v e)) none

  -- "for new grown amount 0, the first edge by index that .."
  unfoldable pub peer : ℕ → PropagatingPeer
  peer v = pick (eqb (at xs v).grown 0) (lead_by xs (first ne (served_by v))) None
