-- One entry of the table of fetch weights: n is the number of edges in use, below which an edge's own words tell it, and from which it is 0.
use Rattle.std.proofs.Common.{ℕ, zero, suc, ◌≤◌, ◌<◌, min, ◌≡◌, refl, sym, ◌∙◌, List, arith, get_or, replicate}
use lib.ListN.{length-replicate}
use Rattle.laws.specs.Table.{paint, paint_from, get_or_painted}
use Rattle.rules.specs.Fetch.{fetch_weight, fetched}
use Rattle.comb_edge.specs.Edge.{weight_by}
use Rattle.comb_edge.specs.Tables.{weight_by_lem}

-- past what is painted a blank table is blank
unpainted : (f : ℕ → ℕ) (i n m k : ℕ) → min n m ≤ k → get_or (paint_from i n f (replicate m 0)) k 0 ≡ 0
unfolding paint_from
unpainted f i zero zero k h = refl
unpainted f i zero (suc m) zero h = refl
unpainted f i zero (suc m) (suc k) h = unpainted f i zero m k (omega arith)
unpainted f i (suc n) zero k h = refl
unpainted f i (suc n) (suc m) zero h = let z : ⊥ = omega arith in absurd z
unpainted f i (suc n) (suc m) (suc k) h = unpainted f (suc i) n m k (omega arith)

-- the code has ne as n and the edge's word as w
module _ (es rs ws : List ℕ) (m e : ℕ) {n : ℕ} (p : n ≡ min m 1_024) where
  pub fetched_in_use : {v w : ℕ} → v ≡ weight_by w rs (get_or ws e 0) → w ≡ get_or es e 0 → e < n → v ≡ get_or (fetched es rs ws (min m 1_024)) e 0
  unfolding fetched
  fetched_in_use h i l =
      rw (i, ← weight_by_lem es e rs ws) at h
      ∙ sym (get_or_painted (fetch_weight es rs ws) (min m 1_024) (replicate 1_024 0) e 0 (omega arith) (rw (length-replicate 1_024) (omega arith)))

  pub fetched_beyond : n ≤ e → 0 ≡ get_or (fetched es rs ws (min m 1_024)) e 0
  unfolding fetched paint
  fetched_beyond l = sym (unpainted (fetch_weight es rs ws) 0 (min m 1_024) 1_024 e (omega arith))

pub ruleset fetches = (fetched_in_use, fetched_beyond)
