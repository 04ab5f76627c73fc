-- Which vertices are marked: the far ends of the edges of the vertices that propagate, where these edges are tight by the grown amount of the one
-- that propagates, since a vertex that is led has grown 0. fs holds the fetch weights, xs the registers after stage 3.
use Rattle.std.specs.Prelude.{ℕ, ◌<◌, ◌≡◌, Bool, false, List, leb, get_or, replicate, None}
use Rattle.laws.specs.Choice.{pick}
use Rattle.laws.specs.Fold.{up_to}
use Rattle.rules.specs.Graph.{touches, far_end}
use Rattle.rules.specs.Registers.{at}
use Rattle.rules.specs.Units.{raise}
use Rattle.rules.specs.Peer.{is_propagating}
use Rattle.places.specs.Places.{edge_in, far_in}
use Rattle.places.specs.Wired.{Wired, walk_wired}
use Rattle.comb_vertex.specs.Led.{peer_at}
use Rattle.comb_vertex.specs.Walked.{place_of}

-- g is the grown amount of the vertex that propagates
module _ (fs : List ℕ) (g : ℕ) where
  -- by edge e, whose far end is w
  unfoldable pub mark_far : ℕ → ℕ → List Bool → List Bool
  mark_far e w marks = pick (leb (get_or fs e 0) g) (raise marks w) marks

  -- by the first n places of v
  unfoldable pub mark_along : List ℕ → ℕ → List Bool → ℕ → List Bool
  mark_along ps v marks n = up_to (λ k t. mark_far (edge_in (place_of ps v k)) (far_in (place_of ps v k)) t) marks n

  -- by the edges of v
  unfoldable pub mark_edges : List ℕ → ℕ → ℕ → List Bool → List Bool
  mark_edges es ne v marks = up_to (λ e t. pick (touches es v e) (mark_far e (far_end es v e) t) t) marks ne

  -- all its places hold its edges
  pub mark_along_lem : {es ps ds : List ℕ} {ne : ℕ} → Wired es ne ps ds → (v : ℕ) → v < 256 → (marks : List Bool) → mark_along ps v marks (get_or ds v 0) ≡ mark_edges es ne v marks
  unfolding mark_along mark_edges
  mark_along_lem w v u marks = walk_wired w v u (λ e x t. mark_far e x t) marks

module _ (es fs xs : List ℕ) (ne : ℕ) where
  unfoldable pub mark_around : ℕ → List Bool → List Bool
  mark_around v marks = pick (is_propagating (at xs v)) (mark_edges fs (at xs v).grown es ne v marks) marks

  -- by the first n vertices
  unfoldable pub marked : ℕ → List Bool
  marked n = up_to (λ v t. mark_around v t) (replicate 256 false) n

-- marks that tell who has no peer
pub record Marks (es fs xs ps ds : List ℕ) (marks : List Bool) : Type 0 where
  pub unled : (v : ℕ) → v < 256 → get_or marks v false ≡ false → peer_at es fs xs ps ds v ≡ None
