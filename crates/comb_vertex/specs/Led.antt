-- Stage 4 by the places of a vertex: ps holds the places, ds the degrees, xs the registers after stage 3.
use Rattle.std.specs.Prelude.{ℕ, ◌≤◌, ◌<◌, ◌≡◌, refl, Bool, true, false, List, None, eqb}
use Rattle.std.proofs.Common.{ap}
use Rattle.std.proofs.Math.Path.{fun_ext}
use Rattle.std.proofs.Math.Option.{Option, none, some}
use Rattle.laws.specs.Choice.{◌and◌, pick}
use Rattle.laws.specs.First.{first}
use Rattle.rules.specs.Graph.{touches, far_end, edges_in_use}
use Rattle.rules.specs.Registers.{at}
use Rattle.rules.specs.Fetch.{tight}
use Rattle.rules.specs.Peer.{is_propagating, lead_by, serves, served_by, peer}
use Rattle.rules.specs.Types.{PropagatingPeer}
use Rattle.places.specs.Places.{edge_in, far_in, places_of, degrees_of}
use Rattle.places.specs.Tie.{first_edges}
use Rattle.board.specs.Board.{edges_on, places_on, degrees_on, fetched_on}
use Rattle.comb_vertex.specs.Walked.{place_of, degree_of, degree_of_lem}

module _ (es fs xs : List ℕ) where
  -- edge e, whose far end is w
  unfoldable pub serves_to : ℕ → ℕ → Bool
  serves_to e w = is_propagating (at xs w) and tight es xs fs e

  unfoldable pub served_to : ℕ → ℕ → Option ℕ
  served_to e w = pick (serves_to e w) (some w) none

  module _ (ps : List ℕ) where
    -- place k of v
    unfoldable pub served_at : ℕ → ℕ → Option ℕ
    served_at v k = served_to (edge_in (place_of ps v k)) (far_in (place_of ps v k))

    -- by the first place that serves
    unfoldable pub led_at : List ℕ → ℕ → PropagatingPeer
    led_at ds v = lead_by xs (first (degree_of ds v) (served_at v))

    unfoldable pub peer_at : List ℕ → ℕ → PropagatingPeer
    peer_at ds v = pick (eqb (at xs v).grown 0) (led_at ds v) None

-- on the board b, by the registers rs before the instruction and weights ws
module _ (b rs ws xs : List ℕ) where
  abbrev pub serves_on : ℕ → ℕ → Bool
  serves_on = serves_to (edges_on b) (fetched_on b rs ws) xs

  abbrev pub led_on : ℕ → PropagatingPeer
  led_on = led_at (edges_on b) (fetched_on b rs ws) xs (places_on b) (degrees_on b)

  abbrev pub peer_on : ℕ → PropagatingPeer
  peer_on = peer_at (edges_on b) (fetched_on b rs ws) xs (places_on b) (degrees_on b)

pick_both : (a b : Bool) (x y : Option ℕ) → pick a (pick b x y) y ≡ pick (a and b) x y
unfolding pick ◌and◌
pick_both true b x y = refl
pick_both false b x y = refl

-- over the places of the edges in use
pub peer_is : (es ps ds : List ℕ) (n m v : ℕ) → n ≡ edges_in_use es m → ps ≡ places_of es n → ds ≡ degrees_of es n → v < 256 → m ≤ 1_024
    → (fs xs : List ℕ) → peer_at es fs xs ps ds v ≡ peer es fs xs n v
unfolding peer_at led_at served_at served_to serves_to peer served_by serves
peer_is es ps ds n m v used p d u most fs xs =
    rw (degree_of_lem es ps ds n m v used p d u, first_edges es ps ds n m v used p d u most (served_to es fs xs))
    (ap (λ (f : ℕ → Option ℕ). pick (eqb (at xs v).grown 0) (lead_by xs (first n f)) None)
    (fun_ext (λ e. pick_both (touches es v e) (serves_to es fs xs e (far_end es v e)) (some (far_end es v e)) none)))
