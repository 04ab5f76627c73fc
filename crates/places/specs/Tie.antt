-- The tie: a walk over the places of v is the fold over all edges that touch v. The places hold those edges in order, and 16 are enough,
-- since an edge in use is no end's 17th.
use Rattle.std.specs.Prelude.{ℕ, zero, suc, ◌+◌, ◌*◌, ◌/◌, ◌%◌, ◌≤◌, ◌<◌, ◌≡◌, Bool, List, eqb, get_or}
use Rattle.std.proofs.Common.{◌∙◌, arith, eqb-true, ltb-true}
use Rattle.std.proofs.Math.Path.{refl, ap}
use Rattle.std.proofs.Math.Bool.{true, false}
use Rattle.std.proofs.Math.Option.{Option, none}
use Rattle.std.proofs.Math.ListN.{length}
use Rattle.laws.specs.Choice.{◌and◌, ◌or◌, pick, by_test, and_left, and_right}
use Rattle.laws.specs.Fold.{up_to, bit, count_to}
use Rattle.laws.specs.First.{first, or_else}
use Rattle.laws.specs.Leading.{leading_le, leading_each}
use Rattle.laws.specs.Table.{get_or_table}
use Rattle.laws.specs.Lists.{get_d_map, length_indices}
use Rattle.laws.specs.Walk.{up_to_same, walk_indices, count_picked, first_fold, first_picked}
use Rattle.rules.specs.Graph.{left_of, right_of, touches, far_end, degree, fits, edges_in_use}
use Rattle.places.specs.Places.{edge_in, far_in, touching, place_word, place_at, places_of, degrees_of}

-- ---- what a place says

module _ (es : List ℕ) (v e : ℕ) where
  far_small : far_end es v e < 256
  unfolding far_end left_of right_of
  far_small = by_test (λ (w : ℕ). w < 256) (eqb (left_of es e) v) (λ t. omega arith) (λ t. omega arith)

  pub place_edge : e < 1_024 → place_word es v e % 1_024 ≡ e
  unfolding place_word
  place_edge l = omega arith

  pub place_far : e < 1_024 → place_word es v e / 1_024 ≡ far_end es v e
  unfolding place_word
  place_far l = omega arith

  place_far_in : e < 1_024 → far_in (place_word es v e) ≡ far_end es v e
  place_far_in l = rw (place_far l) (omega (arith, far_small))

-- ---- how many edges v has

module _ (es : List ℕ) where
  pub length_touching : (n v : ℕ) → length (touching es n v) ≡ degree es n v
  unfolding touching degree
  length_touching n v = length_indices (touches es v) n

  pub degree_at : (n v : ℕ) → v < 256 → get_or (degrees_of es n) v 0 ≡ degree es n v
  unfolding degrees_of
  degree_at n v u = get_or_table (λ w. length (touching es n w)) 256 v 0 u ∙ length_touching n v

  module _ (n v : ℕ) (h : fits es n ≡ true) where
    left_free : degree es n (left_of es n) < 16
    unfolding fits
    left_free = ltb-true _ _ (and_right _ _ (and_left _ _ h))

    right_free : degree es n (right_of es n) < 16
    unfolding fits
    right_free = ltb-true _ _ (and_right _ _ h)

    one_more : (a b : Bool) → eqb (left_of es n) v ≡ a → eqb (right_of es n) v ≡ b → degree es n v ≤ 16 → degree es n v + bit (a or b) ≤ 16
    unfolding ◌or◌
    one_more true b p q i = let z : left_of es n ≡ v = eqb-true _ _ p in rw (← z) (omega (arith, left_free))
    one_more false true p q i = let z : right_of es n ≡ v = eqb-true _ _ q in rw (← z) (omega (arith, right_free))
    one_more false false p q i = omega arith

  few : (n v : ℕ) → ((k : ℕ) → k < n → fits es k ≡ true) → degree es n v ≤ 16
  unfolding degree up_to touches
  few zero v h = omega arith
  few (suc n) v h =
      one_more n v (h n (omega arith)) (eqb (left_of es n) v) (eqb (right_of es n) v) refl refl (few n v (λ k l. h k (omega arith)))

  place_at_lem : (n v k : ℕ) → v < 256 → k < 16 → k < length (touching es n v) → get_or (places_of es n) (v * 16 + k) 0 ≡ place_word es v (get_or (touching es n v) k 0)
  unfolding places_of place_at
  place_at_lem n v k u s l =
      let q : (v * 16 + k) / 16 ≡ v = omega arith in
      let r : (v * 16 + k) % 16 ≡ k = omega arith in
      get_or_table (place_at es n) 4_096 (v * 16 + k) 0 (omega arith) ∙ rw (q, r) (get_d_map (place_word es v) (touching es n v) k 0 0 l)

-- ---- the walks, over the places and degrees of the edges in use

module _ (es ps ds : List ℕ) (n m v : ℕ) (used : n ≡ edges_in_use es m) (p : ps ≡ places_of es n) (d : ds ≡ degrees_of es n) (u : v < 256) where
  pub degree_is : get_or ds v 0 ≡ degree es n v
  degree_is = rw d (degree_at es n v u)

  in_use_lem : (k : ℕ) → k < n → fits es k ≡ true
  unfolding edges_in_use
  in_use_lem k l = leading_each (fits es) m k (rw used at l)

  pub degree_most : get_or ds v 0 ≤ 16
  degree_most = rw degree_is (few es n v in_use_lem)

  place_is : (k : ℕ) → k < length (touching es n v) → get_or ps (v * 16 + k) 0 ≡ place_word es v (get_or (touching es n v) k 0)
  place_is k l = rw p (place_at_lem es n v k u (omega (arith, length_touching es n v, few es n v in_use_lem)) l)

  pub walk_places : {A : Type 0} (f : ℕ → A → A) (a : A)
      → up_to (λ k c. f (get_or ps (v * 16 + k) 0) c) a (get_or ds v 0) ≡ up_to (λ e c. pick (touches es v e) (f (place_word es v e) c) c) a n
  unfolding touching
  walk_places f a =
      rw (degree_is, ← length_touching es n v)
      (up_to_same (λ k c. f (get_or ps (v * 16 + k) 0) c) (λ k c. f (place_word es v (get_or (touching es n v) k 0)) c) a (length (touching es n v)) (λ k c l. ap (λ (w : ℕ). f w c) (place_is k l))
      ∙ walk_indices (λ e c. f (place_word es v e) c) a (touches es v) n)

  -- ---- the same, with each place read as its edge and its far end

  module _ (most : m ≤ 1_024) where
    edge_small : (e : ℕ) → e < n → e < 1_024
    unfolding edges_in_use
    edge_small e l = omega (arith, leading_le (fits es) m)

    pub walk_edges : {A : Type 0} (f : ℕ → ℕ → A → A) (a : A)
        → up_to (λ k c. f (edge_in (get_or ps (v * 16 + k) 0)) (far_in (get_or ps (v * 16 + k) 0)) c) a (get_or ds v 0)
        ≡ up_to (λ e c. pick (touches es v e) (f e (far_end es v e) c) c) a n
    walk_edges f a =
        walk_places (λ w c. f (edge_in w) (far_in w) c) a
        ∙ up_to_same (λ e c. pick (touches es v e) (f (edge_in (place_word es v e)) (far_in (place_word es v e)) c) c) (λ e c. pick (touches es v e) (f e (far_end es v e) c) c) a n
        (λ e c l. rw (place_edge es v e (edge_small e l), place_far_in es v e (edge_small e l)))

    pub count_edges : (q : ℕ → ℕ → Bool)
        → count_to (λ k. q (edge_in (get_or ps (v * 16 + k) 0)) (far_in (get_or ps (v * 16 + k) 0))) (get_or ds v 0) ≡ count_to (λ e. touches es v e and q e (far_end es v e)) n
    count_edges q = walk_edges (λ e w c. c + bit (q e w)) 0 ∙ count_picked (touches es v) (λ e. q e (far_end es v e)) n

    pub first_edges : {B : Type 0} (h : ℕ → ℕ → Option B)
        → first (get_or ds v 0) (λ k. h (edge_in (get_or ps (v * 16 + k) 0)) (far_in (get_or ps (v * 16 + k) 0))) ≡ first n (λ e. pick (touches es v e) (h e (far_end es v e)) none)
    first_edges h =
        first_fold (get_or ds v 0) (λ k. h (edge_in (get_or ps (v * 16 + k) 0)) (far_in (get_or ps (v * 16 + k) 0)))
        ∙ walk_edges (λ e w c. or_else c (h e w)) none ∙ first_picked (touches es v) (λ e. h e (far_end es v e)) n
