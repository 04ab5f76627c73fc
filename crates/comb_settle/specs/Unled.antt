-- A vertex without a mark has no peer. One that has grown is led by nobody; and where it has grown 0, the edge that served it would be tight by
-- what its far end has grown, which propagates, and so would have marked it; and a mark stays.
use Rattle.std.specs.Prelude.{ℕ, zero, suc, ◌<◌, ◌≡◌, Bool, false, List, [], ◌∷◌, leb, eqb, length, get_or, replicate, None}
use Rattle.std.proofs.Math.Path.{refl, ap}
use Rattle.std.proofs.Common.{sym, ◌∙◌, le_of_suc-le-suc, not-suc-le-zero, arith}
use Rattle.std.proofs.Math.Bool.{true}
use Rattle.std.proofs.Math.Option.{Option, none}
use Rattle.std.proofs.Math.ListN.{length-set}
use Rattle.std.proofs.lemmas.List.{length-replicate}
use Rattle.laws.specs.Choice.{pick, by_test, and_left, and_right}
use Rattle.laws.specs.Fold.{bit, up_to_keeps, up_to_first, up_to_each}
use Rattle.laws.specs.First.{first_has}
use Rattle.rules.specs.Graph.{touches, far_end}
use Rattle.rules.specs.Registers.{at}
use Rattle.rules.specs.Units.{raise}
use Rattle.rules.specs.Peer.{is_propagating, lead_by, serves, served_by, peer}
use Rattle.rules.specs.Types.{PropagatingPeer}
use Rattle.places.specs.Ends.{Ends}
use Rattle.places.specs.Wired.{Wired}
use Rattle.comb_settle.specs.Far.{far_below, far_touches, far_back, far_tight}
use Rattle.comb_settle.specs.Marked.{mark_far, mark_edges, mark_around, marked, Marks}
use Rattle.comb_settle.specs.Wiring.{led}

-- ---- the flags stay 256, so that each vertex has one

abbrev Whole : List Bool → Type 0
Whole t = length t ≡ 256

module _ (es fs xs : List ℕ) (ne : ℕ) where
  far_whole : (g e w : ℕ) (t : List Bool) → Whole t → Whole (mark_far fs g e w t)
  unfolding mark_far
  far_whole g e w t h = by_test Whole _ (λ q. length-set t w true ∙ h) (λ q. h)

  around_whole : (v : ℕ) (t : List Bool) → Whole t → Whole (mark_around es fs xs ne v t)
  unfolding mark_around mark_edges
  around_whole v t h =
      by_test Whole _ (λ p. up_to_keeps _ t Whole h (λ e s k. by_test Whole _ (λ q. far_whole (at xs v).grown e (far_end es v e) s k) (λ q. k)) ne) (λ p. h)

  marked_whole : (n : ℕ) → Whole (marked es fs xs ne n)
  unfolding marked
  marked_whole n = up_to_keeps _ (replicate 256 false) Whole (length-replicate 256 false) around_whole n

-- ---- a flag that is down was never raised

-- v has a flag, and it is down
abbrev Down : ℕ → List Bool → Type 0
Down v t = get_or t v true ≡ false

has_flag : (v : ℕ) (t : List Bool) → v < length t → get_or t v false ≡ false → Down v t
has_flag v [] l h = absurd (not-suc-le-zero l)
has_flag zero (b ∷ t) l h = h
has_flag (suc v) (b ∷ t) l h = has_flag v t (le_of_suc-le-suc l) h

up_and_down : true ≡ false → ⊥
up_and_down h = let z : ◌≡◌ {A = ℕ} 1 0 = ap bit h in omega arith

not_raised : (v w : ℕ) (t : List Bool) → Down v (raise t w) → Down v t × (w ≡ v → ⊥)
not_raised v w [] h = absurd (up_and_down h)
not_raised zero zero (b ∷ t) h = absurd (up_and_down h)
not_raised (suc v) zero (b ∷ t) h = (h, λ q. omega arith)
not_raised zero (suc w) (b ∷ t) h = (h, λ q. omega arith)
not_raised (suc v) (suc w) (b ∷ t) h = let before = not_raised v w t h in (before.0, λ q. before.1 (omega arith))

-- a step that is taken where b holds
where_held : (P : List Bool → Type 0) (R : Type 0) (b : Bool) (s t : List Bool) → (P s → P t × R) → P (pick b s t) → P t × (b ≡ true → R)
unfolding pick
where_held P R true s t split h = let parts = split h in (parts.0, λ e. parts.1)
where_held P R false s t split h = (h, λ e. absurd (up_and_down (sym e)))

module _ (es fs xs : List ℕ) (ne v : ℕ) where
  -- whether edge e is tight by what u has grown
  abbrev tight_from : ℕ → ℕ → Bool
  tight_from u e = leb (get_or fs e 0) (at xs u).grown

  -- edge e does not lead from u to v
  abbrev Passes : ℕ → ℕ → Type 0
  Passes u e = touches es u e ≡ true → tight_from u e ≡ true → far_end es u e ≡ v → ⊥

  by_edge : (u e : ℕ) (t : List Bool) → Down v (pick (touches es u e) (mark_far fs (at xs u).grown e (far_end es u e) t) t) → Down v t × Passes u e
  unfolding mark_far
  by_edge u e t h =
      where_held (Down v) _ (touches es u e) _ t (where_held (Down v) _ (tight_from u e) _ t (not_raised v (far_end es u e) t)) h

  by_vertex : (u : ℕ) (t : List Bool) → Down v (mark_around es fs xs ne u t) → Down v t × (is_propagating (at xs u) ≡ true → (e : ℕ) → e < ne → Passes u e)
  unfolding mark_around mark_edges
  by_vertex u t h =
      where_held (Down v) _ (is_propagating (at xs u)) _ t
      (λ d. (up_to_first (Down v) (Passes u) _ (by_edge u) t ne d, up_to_each (Down v) (Passes u) _ (by_edge u) t ne d)) h

  by_none : (n : ℕ) → Down v (marked es fs xs ne n) → (u : ℕ) → u < n → is_propagating (at xs u) ≡ true → (e : ℕ) → e < ne → Passes u e
  unfolding marked
  by_none n h = up_to_each (Down v) _ _ by_vertex (replicate 256 false) n h

-- ---- so no edge serves a vertex without a mark

module _ {es ps ds : List ℕ} {ne r : ℕ} (w : Wired es ne ps ds) (ends : Ends es ne r) (fs xs : List ℕ) where
  module _ (v : ℕ) (down : Down v (marked es fs xs ne r)) where
    module _ (z : eqb (at xs v).grown 0 ≡ true) where
      -- an edge that serves v leads to v from its far end
      clash : (e : ℕ) → e < ne → touches es v e ≡ true → serves es fs xs ne v e ≡ true → ⊥
      unfolding serves
      clash e l t s =
          by_none es fs xs ne v r down (far_end es v e) (far_below es v e ends l) (and_left _ _ s) e l (far_touches es v e) (far_tight es fs xs v e z t (and_right _ _ s))
          (far_back w v e l t)

      unserved : (e : ℕ) → e < ne → served_by es fs xs ne v e ≡ none
      unfolding served_by
      unserved e l = by_test (λ (o : Option ℕ). o ≡ none) _ (λ t. absurd (clash e l (and_left _ _ t) (and_right _ _ t))) (λ t. refl)

    no_peer : peer es fs xs ne v ≡ None
    unfolding peer
    no_peer =
        by_test (λ (p : PropagatingPeer). p ≡ None) _
        (λ t. ap (lead_by xs) (first_has (λ (o : Option ℕ). o ≡ none) refl ne (served_by es fs xs ne v) (unserved t))) (λ t. refl)

  pub marks_tell : {t : List Bool} → t ≡ marked es fs xs ne r → Marks es fs xs ps ds t
  marks_tell {t} p = record {
    unled = λ v u h. led w fs xs v u ∙ no_peer v (rw p at (has_flag v t (rw (p, marked_whole es fs xs ne r) u) h));
  }
