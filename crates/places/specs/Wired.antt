-- Places and degrees that are those of the edges in use, and what a walk over them is.
use Rattle.std.specs.Prelude.{ℕ, ◌+◌, ◌*◌, ◌≤◌, ◌<◌, ◌≡◌, List, get_or}
use Rattle.std.proofs.Common.{sym, arith}
use Rattle.laws.specs.Choice.{pick}
use Rattle.laws.specs.Fold.{up_to}
use Rattle.laws.specs.Leading.{leading_le, leading_all, leading_each}
use Rattle.rules.specs.Graph.{touches, far_end, fits, edges_in_use}
use Rattle.places.specs.Places.{edge_in, far_in, places_of, degrees_of}
use Rattle.places.specs.Tie.{degree_most, walk_edges}

-- all ne edges are in use, and there are at most 1,024
pub record Wired (es : List ℕ) (ne : ℕ) (ps ds : List ℕ) : Type 0 where
  pub small : ne ≤ 1_024
  pub used : ne ≡ edges_in_use es ne
  pub listed : ps ≡ places_of es ne
  pub counted : ds ≡ degrees_of es ne

-- whatever ne is that many of: those in use of the first edges, up to a limit
pub wired_within : (es : List ℕ) (limit ne : ℕ) {ps ds : List ℕ} → limit ≤ 1_024 → ne ≡ edges_in_use es limit → ps ≡ places_of es ne → ds ≡ degrees_of es ne → Wired es ne ps ds
unfolding edges_in_use
wired_within es limit ne small used listed counted = record {
  small = omega (arith, used, leading_le (fits es) limit);
  used = sym (leading_all (fits es) ne (λ k l. leading_each (fits es) limit k (rw used at l)));
  listed = listed;
  counted = counted;
}

module _ {es ps ds : List ℕ} {ne : ℕ} (w : Wired es ne ps ds) (v : ℕ) (u : v < 256) where
  pub degree_wired : get_or ds v 0 ≤ 16
  degree_wired = degree_most es ps ds ne ne v w.used w.listed w.counted u

  pub walk_wired : {A : Type 0} (f : ℕ → ℕ → A → A) (a : A)
      → up_to (λ k c. f (edge_in (get_or ps (v * 16 + k) 0)) (far_in (get_or ps (v * 16 + k) 0)) c) a (get_or ds v 0)
      ≡ up_to (λ e c. pick (touches es v e) (f e (far_end es v e) c) c) a ne
  walk_wired f a = walk_edges es ps ds ne ne v w.used w.listed w.counted u w.small f a
