-- A list of words at the start of an array that is blank behind it: an empty list, and a word more at its end.
use Rattle.std.proofs.Common.{◌≡◌, ℕ, zero, suc, ◌+◌, ◌<◌, ◌≤◌, Bool, true, false, List, [], ◌∷◌, ◌++◌, map, length, take, set, replicate, refl, sym, ap, ◌∙◌, arith, add-one, add-zero, zero-add, length-take, length-append, append-nil, append_assoc}
use Rattle.std.proofs.lemmas.List.{map-append}
use Rattle.std.proofs.Math.Seq.{take-suc-set}
use Rattle.laws.specs.Appended.{extended, push}
use Rattle.laws.specs.Choice.{pick}
use Rattle.laws.specs.Listed.{indices, slots}
use Rattle.laws.specs.Stored.{blank_table}
use Rattle.laws.specs.Table.{table, table_from, length_table}

pub blank : (m : ℕ) → replicate m 0 ≡ slots m []
unfolding slots
blank m = blank_table m 0

module _ (m k w : ℕ) (ws : List ℕ) (h : ws ≡ slots m (take k ws)) (le : k ≤ m) (room : length (take k ws) < m) where
  long : length ws ≡ m
  unfolding slots
  long = ap length h ∙ length_table _ m

  pub below : k < m
  below = omega (arith, length-take k ws, long)

  pub one_more : take (k + 1) (set ws k w) ≡ take k ws ++ w ∷ []
  one_more = rw add-one (take-suc-set ws k w (omega (arith, below, long)))

  pub stored : set ws k w ≡ slots m (take (k + 1) (set ws k w))
  stored = rw one_more (push m k w (take k ws) ws h (omega (arith, length-take k ws, below, long)))

-- ---- f 0, f 1, .., and behind them g of each index that passes

table_from_more : (f : ℕ → ℕ) (i n : ℕ) → table_from i (suc n) f ≡ table_from i n f ++ f (i + n) ∷ []
unfolding table_from
table_from_more f i zero = rw (add-zero i)
table_from_more f i (suc n) = let z : suc i + n ≡ i + suc n = omega arith in rw (← z) (ap (λ t. f i ∷ t) (table_from_more f (suc i) n))

pub table_none : (f : ℕ → ℕ) → table 0 f ≡ []
unfolding table table_from
table_none f = refl

pub table_more : (f : ℕ → ℕ) (n : ℕ) → table (n + 1) f ≡ table n f ++ f n ∷ []
unfolding table
table_more f n = rw (add-one n) (table_from_more f 0 n ∙ rw (zero-add n))

module _ (xs : List ℕ) (g : ℕ → ℕ) (p : ℕ → Bool) where
  pub none_passed : extended xs g p 0 ≡ xs
  unfolding extended indices
  none_passed = append-nil xs

  pub one_passed : (e : ℕ) → p e ≡ true → extended xs g p (e + 1) ≡ extended xs g p e ++ g e ∷ []
  unfolding extended indices pick
  one_passed e h = rw (add-one e, h, map-append) (sym (append_assoc xs (map g (indices p e)) (g e ∷ [])))

  pub one_failed : (e : ℕ) → p e ≡ false → extended xs g p (e + 1) ≡ extended xs g p e
  unfolding extended indices pick
  one_failed e h = rw (add-one e, h, append-nil (indices p e))

at_most_one : (b : Bool) (n : ℕ) → length (pick b (n ∷ []) []) ≤ 1
unfolding pick
at_most_one true n = omega arith
at_most_one false n = omega arith

pub length_indices : (p : ℕ → Bool) (n : ℕ) → length (indices p n) ≤ n
unfolding indices
length_indices p zero = omega arith
length_indices p (suc n) =
    omega (arith, length-append (indices p n) (pick (p n) (n ∷ []) []), at_most_one (p n) n, length_indices p n)
