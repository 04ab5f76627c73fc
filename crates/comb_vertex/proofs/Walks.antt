-- What the turns of the peer walk and its ways out show, over variables: w is the word at place k, b whether it serves, d the degree.
use Rattle.std.proofs.Common.{ℕ, ◌+◌, ◌/◌, ◌%◌, ◌≤◌, ◌<◌, ◌≡◌, ◌∙◌, Bool, true, false, List, arith, None}
use Rattle.std.proofs.Math.Option.{none, some}
use Rattle.laws.specs.Choice.{pick}
use Rattle.laws.specs.First.{first, first_none, first_pass, first_stop}
use Rattle.rules.specs.Peer.{lead_by}
use Rattle.rules.specs.Types.{PropagatingPeer}
use Rattle.laws.specs.Tests.{tests}
use Rattle.comb_edge.specs.Tables.{tight_by_lem}
use Rattle.comb_vertex.specs.Walked.{place_of, degree_of}
use Rattle.comb_vertex.specs.Led.{serves_to, served_to, served_at, led_at}

module _ (es fs xs ps : List ℕ) (v k : ℕ) where
  module _ (w : ℕ) (b : Bool) (s : b ≡ serves_to es fs xs (w % 1_024) (w / 1_024 % 256)) (p : w ≡ place_of ps v k) where
    pub walk_passes : b ≡ false → first k (served_at es fs xs ps v) ≡ none → first (k + 1) (served_at es fs xs ps v) ≡ none
    unfolding served_at served_to pick
    walk_passes f h = first_pass k (served_at es fs xs ps v) h (rw (← p, ← s, f))

    pub walk_stops : (ds : List ℕ) (d : ℕ) (r : PropagatingPeer) → r ≡ lead_by xs (some (w / 1_024 % 256)) → b ≡ true → first k (served_at es fs xs ps v) ≡ none
        → d ≡ degree_of ds v → k < d → r ≡ led_at es fs xs ps ds v
    unfolding led_at served_at served_to pick
    walk_stops ds d r e t h q l = e ∙ rw (← q, first_stop k d (served_at es fs xs ps v) (w / 1_024 % 256) l h (rw (← p, ← s, t)))

  pub walk_ends : (ds : List ℕ) (d : ℕ) → first k (served_at es fs xs ps v) ≡ none → d ≡ degree_of ds v → k ≤ d → d ≤ k → None ≡ led_at es fs xs ps ds v
  unfolding led_at
  walk_ends ds d h q l g = let z : degree_of ds v ≡ k = omega arith in rw (z, h)

pub ruleset walks = (first_none, walk_passes, walk_stops, walk_ends)

-- an edge is tight by its own word
pub ruleset serving = (tests, tight_by_lem)
