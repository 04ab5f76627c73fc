-- Stages 4 to 6 look at a table through the registers that it shows, so tables that show the same lead to the same.
use Rattle.std.proofs.Common.{ℕ, ◌+◌, ◌≡◌, refl, sym, ap, ◌∙◌, Bool, List, leb, eqb, get_or, None, Some}
use mathlib.Core.Path.{fun_ext}
use Rattle.std.proofs.Math.Option.{Option, none, some}
use Rattle.laws.specs.Choice.{◌and◌, pick}
use Rattle.laws.specs.First.{first}
use Rattle.laws.specs.Table.{paint_same}
use Rattle.rules.specs.Graph.{left_of, right_of, touches, far_end}
use Rattle.rules.specs.Registers.{at}
use Rattle.rules.specs.Fetch.{tight}
use Rattle.rules.specs.Peer.{is_propagating, lead_by, serves, served_by, peer}
use Rattle.rules.specs.Update.{updated}
use Rattle.rules.specs.Shadow.{shadows}
use Rattle.rules.specs.declared.registers.VertexRegisters.{VertexRegisters}
use Rattle.rules.specs.Types.{PropagatingPeer}
use Rattle.comb_vertex.specs.Execution.{Shows}

-- r gives the registers of each vertex
abbrev lead_of : (ℕ → VertexRegisters) → Option ℕ → PropagatingPeer
lead_of r none = None
lead_of r (some p) = Some (record { node = (r p).node; root = (r p).root })

lead_of_lem : (xs : List ℕ) (o : Option ℕ) → lead_by xs o ≡ lead_of (at xs) o
lead_of_lem xs none = refl
lead_of_lem xs (some p) = refl

module _ (es fs : List ℕ) (ne v : ℕ) where
  abbrev served_of : (ℕ → VertexRegisters) → ℕ → Option ℕ
  served_of r e =
      pick (touches es v e and (is_propagating (r (far_end es v e)) and leb (get_or fs e 0) ((r (left_of es e)).grown + (r (right_of es e)).grown))) (some (far_end es v e)) none

  abbrev peer_of : (ℕ → VertexRegisters) → PropagatingPeer
  peer_of r = pick (eqb (r v).grown 0) (lead_of r (first ne (served_of r))) None

  peer_of_lem : (xs : List ℕ) → peer es fs xs ne v ≡ peer_of (at xs)
  unfolding peer served_by serves tight
  peer_of_lem xs = ap (λ (p : PropagatingPeer). pick (eqb (at xs v).grown 0) p None) (lead_of_lem xs (first ne (served_of (at xs))))

module _ (es fs : List ℕ) (ne nv : ℕ) {xs ys : List ℕ} (s : Shows nv xs ys) where
  peer_shown : (v : ℕ) → peer es fs xs ne v ≡ peer es fs ys ne v
  peer_shown v = peer_of_lem es fs ne v xs ∙ ap (peer_of es fs ne v) (fun_ext s.same) ∙ sym (peer_of_lem es fs ne v ys)

  pub updated_shown : updated es fs xs ne nv ≡ updated es fs ys ne nv
  unfolding updated
  updated_shown = s.beyond _ ∙ paint_same _ _ nv ys (λ v u. rw (peer_shown v, s.same v))

  pub shadows_shown : (vs zs : List ℕ) (stalled : List Bool) → shadows vs es fs xs zs stalled ne nv ≡ shadows vs es fs ys zs stalled ne nv
  unfolding shadows
  shadows_shown vs zs stalled = paint_same _ _ nv zs (λ v u. rw (peer_shown v))
