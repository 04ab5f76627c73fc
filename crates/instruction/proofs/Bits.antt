-- A field is the sum of its bits; so a row's word, with the numbers that stand in a word's fields, is the sum of the word's bits that the kind uses.
use Rattle.std.proofs.Common.{ℕ, zero, suc, ◌+◌, ◌*◌, ◌/◌, ◌%◌, ◌^◌, ◌<◌, ◌≡◌, refl, sym, ◌∙◌, ap, ap₂, mod-lt, arith, eqb, shr-shr}
use lib.Pow.{mod-pow-add}
use Rattle.laws.specs.Choice.{◌and◌, ◌or◌}
use Rattle.laws.specs.Fold.{bit}
use Rattle.laws.specs.Mask.{mask_of}
use Rattle.rules.specs.Words.{field_at, field_of, kind_at, word_of}
use Rattle.instruction.specs.Spare.{is_set, used_bits, uses, within}
use Rattle.instruction.proofs.Table.{Each, each_at}

half : (n : ℕ) → n < 2 → bit (eqb n 1) ≡ n
half zero h = refl
half (suc zero) h = refl
half (suc (suc n)) h = absurd (omega arith)

-- a field is made of its bits
field_bits : (w at n : ℕ) → field_of (field_at at n) w ≡ mask_of n (λ j. is_set w (at + j))
unfolding field_of mask_of is_set
field_bits w at zero = omega arith
field_bits w at (suc n) =
    let e : suc n ≡ 1 + n = omega arith in
    ap (λ (m : ℕ). w / 2 ^ at % 2 ^ m) e
    ∙ mod-pow-add (w / 2 ^ at) 1 n
    ∙ ap₂ (λ (x y : ℕ). x * 2 ^ n + y) (rw (shr-shr w at n) (sym (half (w / 2 ^ (at + n) % 2) (mod-lt (w / 2 ^ (at + n)) (omega arith))))) (field_bits w at n)

-- the bits of w that a kind uses, if w has its low bits and its code
module _ (w : ℕ) where
  abbrev Kept : ℕ → Type 0
  Kept k =
      field_of (field_at 0 (kind_at k).lows) w ≡ (kind_at k).low
      → field_of (field_at 3 (kind_at k).codes) w ≡ (kind_at k).code
      → word_of (kind_at k) (field_of (kind_at k).a w) (field_of (kind_at k).b w) ≡ used_bits (kind_at k) w

  all_kept : Each 7 Kept
  unfolding word_of used_bits mask_of uses within ◌and◌ ◌or◌
  all_kept = omega (arith, field_bits w 0 2, field_bits w 0 3, field_bits w 2 15, field_bits w 3 0, field_bits w 3 3, field_bits w 6 0, field_bits w 6 26, field_bits w 15 2, field_bits w 17 15)

  pub kept : (k : ℕ) → k < 7 → Kept k
  kept k h = each_at Kept 7 all_kept k h
