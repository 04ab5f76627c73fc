-- What the walk over the table finds: a word's own kind, if the word was made from a row, and else nothing but a kind that the word has.
use Rattle.std.proofs.Common.{ℕ, ◌/◌, ◌%◌, ◌<◌, ◌≡◌, refl, Bool, true, false, arith, eqb, ne_eqb}
use Rattle.std.proofs.Math.Option.{Option, none, some}
use Rattle.laws.specs.Choice.{◌and◌, pick}
use Rattle.laws.specs.First.{first, first_has, or_else}
use Rattle.rules.specs.Words.{field_of, is_kind, kind_at, kind_in, kind_of_word, word_of}
use Rattle.instruction.proofs.Table.{each_at}

-- the kind of a word by its six lowest bits
module _ (w : ℕ) where
  plain : w / 8 % 1 ≡ 0
  plain = omega arith

  speed_kind : w / 1 % 8 ≡ 0 → kind_of_word w ≡ some 0
  unfolding kind_of_word first kind_in pick is_kind field_of ◌and◌
  speed_kind l = simp (l, plain)

  blossom_kind : w / 1 % 4 ≡ 1 → kind_of_word w ≡ some 1
  unfolding kind_of_word first kind_in pick is_kind field_of ◌and◌
  blossom_kind l = simp (ne_eqb (w / 1 % 8) 0 (λ e. omega arith), l, plain)

  defect_kind : w / 1 % 4 ≡ 2 → kind_of_word w ≡ some 2
  unfolding kind_of_word first kind_in pick is_kind field_of ◌and◌
  defect_kind l = simp (ne_eqb (w / 1 % 8) 0 (λ e. omega arith), l, plain)

  -- an extended word's code is looked up among the kinds from 3 on
  extended : (code : ℕ) → w / 1 % 8 ≡ 4 → w / 8 % 8 ≡ code → kind_of_word w ≡ or_else (or_else (or_else (pick (eqb code 0) (some 3) none) (pick (eqb code 4) (some 4) none)) (pick (eqb code 5) (some 5) none)) (pick (eqb code 6) (some 6) none)
  unfolding kind_of_word first kind_in pick is_kind field_of ◌and◌
  extended code l c =
      let q : w / 1 % 4 ≡ 0 = omega arith in
      simp (l, q, c)

-- a word made from a row is of the row's kind
pub own_kind : (a b k : ℕ) → k < 7 → kind_of_word (word_of (kind_at k) a b) ≡ some k
unfolding word_of pick
own_kind a b k h =
    each_at (λ (j : ℕ). kind_of_word (word_of (kind_at j) a b) ≡ some j) 7
    (((((((tt, speed_kind _ (omega arith)), blossom_kind _ (omega arith)), defect_kind _ (omega arith)), extended _ 0 (omega arith) (omega arith)), extended _ 4 (omega arith) (omega arith)), extended _ 5 (omega arith) (omega arith)), extended _ 6 (omega arith) (omega arith))
    k h

-- the kind that is found is in the table, and is the word's
abbrev pub Found : ℕ → ℕ → Type 0
Found w k = (k < 7) × (is_kind (kind_at k) w ≡ true)

kind_in_lem : (w k : ℕ) → k < 7 → (is : Bool) → is_kind (kind_at k) w ≡ is → (j : ℕ) → pick is (some k) none ≡ some j → Found w j
unfolding pick
kind_in_lem w k h true e j q =
    let same : k ≡ j = cc in
    rw (← same) (h, e)
kind_in_lem w k h false e j q = cc

pub kind_found : (w k : ℕ) → kind_of_word w ≡ some k → Found w k
unfolding kind_of_word kind_in
kind_found w k e =
    first_has (λ (o : Option ℕ). (j : ℕ) → o ≡ some j → Found w j) (λ j q. cc) 7 (kind_in w) (λ j l. kind_in_lem w j l (is_kind (kind_at j) w) refl) k e
