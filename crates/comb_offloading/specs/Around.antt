-- A VirtualMatch on edge e looks at the other edges of an end v, place by place. Over all places of v this is what the definitions say over all
-- edges.
use Rattle.std.specs.Prelude.{ℕ, ◌+◌, ◌*◌, ◌<◌, ◌≡◌, refl, Bool, false, not, List, eqb, get_or}
use Rattle.std.proofs.Common.{◌∙◌}
use Rattle.std.proofs.Math.Bool.{true}
use Rattle.laws.specs.Choice.{◌and◌, ◌or◌, pick}
use Rattle.laws.specs.Fold.{up_to, all_to}
use Rattle.laws.specs.Walk.{up_to_same}
use Rattle.rules.specs.Graph.{touches, far_end}
use Rattle.rules.specs.Registers.{at}
use Rattle.rules.specs.Fetch.{tight, tight_count}
use Rattle.rules.specs.Units.{raise, is_other, permits}
use Rattle.places.specs.Places.{edge_in, far_in}
use Rattle.places.specs.Wired.{Wired, walk_wired}

-- ---- what a place says: k is the edge that it holds, x its far end

module _ (es rs fs : List ℕ) (e : ℕ) where
  -- a tight edge that is not e
  unfoldable pub tight_other : ℕ → Bool
  tight_other k = not (eqb k e) and tight es rs fs k

  -- no such edge, or one that leads to a non-defect with tight count 1
  unfoldable pub permits_by : ℕ → ℕ → ℕ → Bool
  permits_by ne k x = not (tight_other k) or not (at rs x).is_defect and eqb (tight_count es rs fs ne x) 1

  -- the far end of such an edge stalls
  unfoldable pub stalls_by : ℕ → ℕ → List Bool → List Bool
  stalls_by k x flags = pick (tight_other k) (raise flags x) flags

  -- ---- over the first n places of v

  module _ (ps : List ℕ) (v : ℕ) where
    abbrev place : ℕ → ℕ
    place j = get_or ps (v * 16 + j) 0

    unfoldable pub all_permit : ℕ → ℕ → Bool
    all_permit ne n = all_to (λ j. permits_by ne (edge_in (place j)) (far_in (place j))) n

    unfoldable pub stalls_along : List Bool → ℕ → List Bool
    stalls_along flags n = up_to (λ j t. stalls_by (edge_in (place j)) (far_in (place j)) t) flags n

-- ---- over all edges: "each other edge of that end untight or leading to a non-defect with tight count 1"

unfoldable pub others_permit : List ℕ → List ℕ → List ℕ → ℕ → ℕ → ℕ → Bool
others_permit es rs fs ne e v = all_to (λ k. not (is_other es rs fs ne e v k) or permits es rs fs ne v k) ne

-- ---- the tie

permits_turn : (touch same tight rest c : Bool)
    → pick touch (c and (not (not same and tight) or rest)) c ≡ (c and (not (touch and not same) or (not tight or rest)))
unfolding pick ◌and◌ ◌or◌
permits_turn true true tight rest c = refl
permits_turn true false tight rest c = refl
permits_turn false same tight rest true = refl
permits_turn false same tight rest false = refl

stalls_turn : (touch same tight : Bool) (x y : List Bool) → pick touch (pick (not same and tight) x y) y ≡ pick (touch and not same and tight) x y
unfolding pick ◌and◌
stalls_turn true same tight x y = refl
stalls_turn false same tight x y = refl

module _ (es rs fs : List ℕ) (e : ℕ) {ps ds : List ℕ} {ne : ℕ} (w : Wired es ne ps ds) (v : ℕ) (u : v < 256) where
  pub all_permit_lem : all_permit es rs fs e ps v ne (get_or ds v 0) ≡ others_permit es rs fs ne e v
  unfolding others_permit all_permit permits_by tight_other is_other permits
  all_permit_lem =
      walk_wired w v u (λ k x c. c and permits_by es rs fs e ne k x) true
      ∙ up_to_same (λ k c. pick (touches es v k) (c and permits_by es rs fs e ne k (far_end es v k)) c)
      (λ k c. c and (not (is_other es rs fs ne e v k) or permits es rs fs ne v k)) true ne
      (λ k c l. permits_turn (touches es v k) (eqb k e) (tight es rs fs k) _ c)

  pub stalls_along_lem : (flags : List Bool)
      → stalls_along es rs fs e ps v flags (get_or ds v 0)
      ≡ up_to (λ k t. pick (is_other es rs fs ne e v k and tight es rs fs k) (raise t (far_end es v k)) t) flags ne
  unfolding stalls_along stalls_by tight_other is_other
  stalls_along_lem flags =
      walk_wired w v u (λ k x t. stalls_by es rs fs e k x t) flags
      ∙ up_to_same (λ k t. pick (touches es v k) (stalls_by es rs fs e k (far_end es v k) t) t)
      (λ k t. pick (is_other es rs fs ne e v k and tight es rs fs k) (raise t (far_end es v k)) t) flags ne
      (λ k t l. stalls_turn (touches es v k) (eqb k e) (tight es rs fs k) (raise t (far_end es v k)) t)
