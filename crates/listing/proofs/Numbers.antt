-- Numbers put one after the other, and how long the numbers of the stalled edges are at most.
use Rattle.std.proofs.Common.{ℕ, suc, ◌+◌, ◌*◌, ◌≤◌, ◌<◌, ◌≡◌, Bool, true, false, List, [], ◌∷◌, ◌++◌, length, take, get_or, refl, sym, ap, arith, append_assoc, append-nil, length-append, length-take}
use Rattle.std.proofs.lemmas.List.{take_more}
use Rattle.rules.specs.Listing.{number, numbers}
use Rattle.rules.specs.Pairs.{raised_from}
use Rattle.raised.specs.Below.{pair_at, pairs_below, below_next}
use Rattle.listing.proofs.Digits.{edge_most}

numbers_append : (ms ns : List ℕ) → numbers (ms ++ ns) ≡ numbers ms ++ numbers ns
numbers_append [] ns = refl
numbers_append (m ∷ ms) ns = rw (numbers_append ms ns) (sym (append_assoc (number m) (numbers ms) (numbers ns)))

pub one_more : (ns : List ℕ) (n : ℕ) → numbers (ns ++ n ∷ []) ≡ numbers ns ++ number n
one_more ns n = rw (numbers_append, append-nil)

pub more_taken : (ns : List ℕ) (i : ℕ) → i < length ns → numbers (take (i + 1) ns) ≡ numbers (take i ns) ++ number (get_or ns i 0)
more_taken ns i h = rw (take_more ns i 0 h) (one_more (take i ns) (get_or ns i 0))

pub edges_most : (i : ℕ) (flags : List Bool) → i + length flags ≤ 1_024 → length (numbers (raised_from i flags)) ≤ 5 * length flags
edges_most i [] h = omega arith
edges_most i (true ∷ flags) h =
    omega (arith, edges_most (suc i) flags (omega arith), edge_most i (omega arith), length-append (number i) (numbers (raised_from (suc i) flags)))
edges_most i (false ∷ flags) h = omega (arith, edges_most (suc i) flags (omega arith))

-- ---- an edge's number where it is stalled, and the numbers of the stalled edges below e

pub edge_on : (e : ℕ) (b : Bool) → b ≡ true → numbers (pair_at e b) ≡ number e
unfolding pair_at
edge_on e b h = rw h (append-nil (number e))

pub edge_off : (e : ℕ) (b : Bool) → b ≡ false → numbers (pair_at e b) ≡ []
unfolding pair_at
edge_off e b h = rw h refl

module _ (flags : List Bool) (e : ℕ) where
  pub below_grows : numbers (pairs_below flags (e + 1)) ≡ numbers (pairs_below flags e) ++ numbers (pair_at e (get_or flags e false))
  below_grows = rw (below_next flags e) (numbers_append (pairs_below flags e) (pair_at e (get_or flags e false)))

  pub below_room : e < 1_024 → length (numbers (pairs_below flags e)) + length (numbers (pair_at e (get_or flags e false))) ≤ 5_120
  unfolding pairs_below
  below_room h =
      let few : length (take (e + 1) flags) ≤ e + 1 = omega (arith, length-take (e + 1) flags) in
      omega (
        arith,
        few,
        ap length below_grows,
        length-append (numbers (pairs_below flags e)) (numbers (pair_at e (get_or flags e false))),
        edges_most 0 (take (e + 1) flags) (omega arith),
      )
