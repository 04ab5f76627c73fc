-- The ends of edges, and how far those in use reach: no end of them stands at r or beyond, so a walk over the first r vertices meets every edge.
use Rattle.std.specs.Prelude.{ℕ, ◌+◌, ◌≤◌, ◌<◌, ◌/◌, ◌%◌, max, ◌≡◌, refl, true, List, eqb, get_or}
use Rattle.std.proofs.Common.{arith, eq-eqb}
use Rattle.laws.specs.Fold.{up_to, up_to_each, up_to_keeps}
use Rattle.laws.specs.Tests.{the_first, the_second}
use Rattle.rules.specs.Graph.{left_of, right_of, touches}

-- the ends that an edge's word says
abbrev pub left : ℕ → ℕ
left w = w % 256

abbrev pub right : ℕ → ℕ
right w = w / 256 % 256

-- past r, and past both ends
abbrev pub beyond : ℕ → ℕ → ℕ
beyond r w = max (max r (left w + 1)) (right w + 1)

pub record Ends (es : List ℕ) (ne r : ℕ) : Type 0 where
  pub small : r ≤ 256
  pub left : (e : ℕ) → e < ne → left_of es e < r
  pub right : (e : ℕ) → e < ne → right_of es e < r

-- an edge is one of those of each of its ends
module _ (es : List ℕ) (e : ℕ) where
  pub touches_left : touches es (left_of es e) e ≡ true
  unfolding touches
  touches_left = let v = left_of es e in the_first (eqb v v) (eqb (right_of es e) v) (eq-eqb v v refl)

  pub touches_right : touches es (right_of es e) e ≡ true
  unfolding touches
  touches_right = let v = right_of es e in the_second (eqb (left_of es e) v) (eqb v v) (eq-eqb v v refl)

module _ (es : List ℕ) where
  -- past the highest end of the first n edges
  unfoldable pub reach_of : ℕ → ℕ
  reach_of n = up_to (λ e r. beyond r (get_or es e 0)) 0 n

  -- an end that is below the reach of all edges up to its own stays below
  covers : (m n e : ℕ) → e < n → reach_of n ≤ m → (left_of es e < m) × (right_of es e < m)
  unfolding reach_of left_of right_of
  covers m n e l h =
      up_to_each (λ r. r ≤ m) (λ k. (get_or es k 0 % 256 < m) × (get_or es k 0 / 256 % 256 < m)) (λ k r. beyond r (get_or es k 0))
      (λ k r b. (omega arith, (omega arith, omega arith))) 0 n h e l

  pub ends : (n : ℕ) → Ends es n (reach_of n)
  unfolding reach_of
  ends n = record {
    small = up_to_keeps (λ e r. beyond r (get_or es e 0)) 0 (λ r. r ≤ 256) (omega arith) (λ k r b. omega arith) n;
    left = λ e l. (covers (reach_of n) n e l (omega arith)).0;
    right = λ e l. (covers (reach_of n) n e l (omega arith)).1;
  }
