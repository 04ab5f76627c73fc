-- A vertex written behind those listed leaves them as they are, and is one of them where it grows; a walk over those listed is the walk over all
-- vertices that passes by the others.
use Rattle.std.proofs.Common.{ℕ, zero, suc, ◌+◌, ◌≤◌, ◌<◌, ◌≡◌, refl, sym, ap, ◌∙◌, Bool, true, false, List, add-zero, add-one, arith, length, get_or, set, take, lt-length-set, take-suc, get_or-set_same, get_or-take, length-set, length-take-le}
use lib.Seq.{take-set-le}
use Rattle.laws.specs.Fold.{up_to, bit, bit_most, count_to, count_most}
use Rattle.laws.specs.Listed.{indices}
use Rattle.laws.specs.Lists.{indices_more, indices_skip, length_indices}
use Rattle.laws.specs.Semilattice.{joined, joined_picked}
use Rattle.laws.specs.Walk.{up_to_same, walk_indices}
use Rattle.rules.specs.Registers.{at, growing, view}
use Rattle.comb_cycle.specs.Listed.{grows_at, listed}
use Rattle.comb_cycle.specs.Strongest.{silent, stronger, strongest_of, strongest_at}
use Rattle.comb_cycle.specs.declared.report.Report.{Report}
use Rattle.comb_cycle.proofs.Covered.{heard}
use Rattle.comb_cycle.proofs.Strengths.{strengths}

-- ---- listing

-- v is written behind the n below it that pass
module _ (p : ℕ → Bool) (xs : List ℕ) (n v : ℕ) (inside : n < length xs) (so_far : take n xs ≡ indices p v) where
  kept : take n (set xs n v) ≡ indices p v
  kept = take-set-le n xs n v (omega arith) ∙ so_far

  by_pass : (b : Bool) → p v ≡ b → take (n + bit b) (set xs n v) ≡ indices p (suc v)
  by_pass true t =
      rw (
        add-one n,
        indices_more p v t,
        take-suc (set xs n v) n 0 (lt-length-set xs n v inside),
        get_or-set_same xs n v 0 inside,
        kept,
      )
  by_pass false t = rw (add-zero n, indices_skip p v t) kept

module _ (p : ℕ → Bool) (xs : List ℕ) where
  length_listed : (n : ℕ) → length (listed p xs n) ≡ length xs
  unfolding listed up_to
  length_listed zero = refl
  length_listed (suc n) = length-set (listed p xs n) (count_to p n) n ∙ length_listed n

  -- from the start of the table on stand those that pass
  pub listed_are : (n : ℕ) → n ≤ length xs → take (count_to p n) (listed p xs n) ≡ indices p n
  unfolding listed up_to indices
  listed_are zero l = refl
  listed_are (suc n) l = by_pass p (listed p xs n) (count_to p n) n (rw (length_listed n) (omega (arith, count_most p n))) (listed_are n (omega arith)) (p n) refl

-- ---- the turns of the walk

module _ (p : ℕ → Bool) where
  pub count_begins : 0 ≡ count_to p 0
  unfolding up_to
  count_begins = refl

  module _ (xs : List ℕ) where
    pub lists_begin : xs ≡ listed p xs 0
    unfolding listed up_to
    lists_begin = refl

    pub lists_next : (n v : ℕ) {t : List ℕ} → n ≡ count_to p v → t ≡ listed p xs v → set t n v ≡ listed p xs (v + 1)
    unfolding listed up_to
    lists_next n v h i = rw (add-one v, h, i)

    pub lists_end : (n r : ℕ) {t : List ℕ} → n ≡ count_to p r → t ≡ listed p xs r → r ≤ length xs → take n t ≡ indices p r
    lists_end n r h i l = rw (h, i) (listed_are p xs r l)

-- g is 1 where v shows Grow
pub count_next : (ss : List ℕ) (n v : ℕ) {g : ℕ} → g ≡ bit (growing (view (get_or ss v 0)).speed) → n ≡ count_to (grows_at ss) v → n + g ≡ count_to (grows_at ss) (v + 1)
unfolding up_to at
count_next ss n v q h = rw (add-one v, h, q)

pub ruleset lists = (count_begins, count_next, lists_begin, lists_next, lists_end, bit_most)

-- ---- hearing those listed

module _ (es fs ys ss : List ℕ) (ne : ℕ) where
  -- what is heard at the vertex at k in the list
  unfoldable pub heard_from : List ℕ → ℕ → Report
  heard_from xs k = strongest_at es fs ys ss ne (get_or xs k 0)

  pub indices_heard : (r : ℕ) → let xs = indices (grows_at ss) r in strongest_of (heard_from xs) (length xs) ≡ strongest_of (heard es fs ys ss ne) r
  unfolding strongest_of joined heard_from heard
  indices_heard r =
      let f = strongest_at es fs ys ss ne in
      walk_indices (λ v c. stronger c (f v)) silent (grows_at ss) r ∙ joined_picked stronger silent strengths (grows_at ss) f r

  pub listed_heard : (xs : List ℕ) (r : ℕ) → r ≤ length xs
      → strongest_of (heard_from (listed (grows_at ss) xs r)) (count_to (grows_at ss) r) ≡ strongest_of (heard es fs ys ss ne) r
  unfolding strongest_of joined heard_from
  listed_heard xs r l =
      let p = grows_at ss in
      let stands : (k : ℕ) → k < count_to p r → get_or (listed p xs r) k 0 ≡ get_or (indices p r) k 0
      = λ k b. sym (get_or-take (count_to p r) (listed p xs r) k 0 b) ∙ ap (λ (t : List ℕ). get_or t k 0) (listed_are p xs r l) in
      up_to_same _ (λ k c. stronger c (heard_from (indices p r) k)) silent (count_to p r) (λ k c b. ap (λ (v : ℕ). stronger c (strongest_at es fs ys ss ne v)) (stands k b))
      ∙ rw (← length_indices p r) (indices_heard r)

  -- a walk over the slice of those listed
  pub slice_heard : (xs : List ℕ) (r : ℕ) → r ≤ length xs → let ls = take (count_to (grows_at ss) r) (listed (grows_at ss) xs r) in strongest_of (heard_from ls) (length ls) ≡ strongest_of (heard es fs ys ss ne) r
  unfolding strongest_of joined heard_from
  slice_heard xs r l =
      let p = grows_at ss in
      let c = count_to p r in
      let fits : c ≤ length (listed p xs r) = rw (length_listed p xs r) (omega (arith, count_most p r)) in
      let stands : (k : ℕ) → k < c → get_or (take c (listed p xs r)) k 0 ≡ get_or (listed p xs r) k 0 = λ k b. get_or-take c (listed p xs r) k 0 b in
      rw (length-take-le c (listed p xs r) fits)
      (up_to_same _ (λ k t. stronger t (heard_from (listed p xs r) k)) silent c (λ k t b. ap (λ (v : ℕ). stronger t (strongest_at es fs ys ss ne v)) (stands k b)) ∙ listed_heard xs r l)
