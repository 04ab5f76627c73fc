-- Packing what was unpacked gives the word with its spare bits zero: the numbers that were read fit their fields again.
use Rattle.std.proofs.Common.{ℕ, ◌^◌, ◌<◌, ◌≡◌, refl, ◌∙◌, arith, lit<, eqb-true, lt-ltb, Err, Ok}
use Rattle.std.proofs.Math.Option.{Option, none, some}
use Rattle.laws.specs.Choice.{◌and◌, pick, and_left, and_right}
use Rattle.rules.specs.Words.{asks, asks_in, is_kind, kind_at, kind_of_word, packed, packed_reset, speed_asked, unpacked, word_of}
use Rattle.rules.specs.declared.instruction.CompactGrowState.TheVariants.{Stay, Grow, Shrink}
use Rattle.rules.specs.declared.instruction.Instruction.{Instruction}
use Rattle.rules.specs.Types.{Packed, Unpacked}
use Rattle.rules.specs.declared.instruction.Asked.TheVariants.{Says, Reset}
use Rattle.instruction.specs.Packing.{packed_as}
use Rattle.instruction.specs.Spare.{spare_zero, used_in}
use Rattle.instruction.proofs.Table.{each_at}
use Rattle.instruction.proofs.Fields.{field_lt}
use Rattle.instruction.proofs.Bounds.{speed_packs, blossom_packs, defect_packs, obstacle_packs, reset_packs, load_packs, grow_packs}
use Rattle.instruction.proofs.Bits.{kept}
use Rattle.instruction.proofs.KindOfWord.{kind_found}

-- what was said, packed again; a refused word stays as it is
abbrev again : Unpacked → Packed → Packed
again (Ok (Says i)) p = packed i
again (Ok Reset) p = packed_reset
again (Err r) p = p

packs : (k a b : ℕ) → a < 2 ^ (kind_at k).a.width → b < 2 ^ (kind_at k).b.width → packed_as (kind_at k) a b ≡ Ok (word_of (kind_at k) a b)
unfolding packed_as ◌and◌ pick
packs k a b ha hb = rw (lt-ltb a (2 ^ (kind_at k).a.width) ha, lt-ltb b (2 ^ (kind_at k).b.width) hb)

-- numbers that fit a row's fields make the row's word again
module _ (a b : ℕ) where
  abbrev Again : ℕ → Type 0
  Again k = a < 2 ^ (kind_at k).a.width → b < 2 ^ (kind_at k).b.width → again (asks k a b) (Ok (word_of (kind_at k) a b)) ≡ Ok (word_of (kind_at k) a b)

  again_speed : Again 0
  unfolding asks speed_asked
  again_speed ha hb =
      each_at (λ (s : ℕ). again (asks 0 a s) (Ok (word_of (kind_at 0) a s)) ≡ Ok (word_of (kind_at 0) a s)) 4
      ((((tt, speed_packs _ Stay 0 refl ∙ packs 0 a 0 ha (lit< tt)), speed_packs _ Grow 1 refl ∙ packs 0 a 1 ha (lit< tt)), speed_packs _ Shrink 2 refl ∙ packs 0 a 2 ha (lit< tt)), refl)
      b hb

  again_blossom : Again 1
  unfolding asks
  again_blossom ha hb = blossom_packs _ _ ∙ packs 1 a b ha hb

  again_defect : Again 2
  unfolding asks
  again_defect ha hb = defect_packs _ _ ∙ packs 2 a b ha hb

  again_obstacle : Again 3
  unfolding asks
  again_obstacle ha hb =
      let ea : a ≡ 0 = omega arith in
      let eb : b ≡ 0 = omega arith in
      rw (ea, eb) (obstacle_packs ∙ packs 3 0 0 (lit< tt) (lit< tt))

  again_reset : Again 4
  unfolding asks
  again_reset ha hb =
      let ea : a ≡ 0 = omega arith in
      let eb : b ≡ 0 = omega arith in
      rw (ea, eb) (reset_packs ∙ packs 4 0 0 (lit< tt) (lit< tt))

  again_load : Again 5
  unfolding asks
  again_load ha hb =
      let eb : b ≡ 0 = omega arith in
      rw eb (load_packs _ ∙ packs 5 a 0 ha (lit< tt))

  again_grow : Again 6
  unfolding asks
  again_grow ha hb =
      let eb : b ≡ 0 = omega arith in
      rw eb (grow_packs _ ∙ packs 6 a 0 ha (lit< tt))

  packs_again : (k : ℕ) → k < 7 → Again k
  packs_again k h = each_at Again 7 (((((((tt, again_speed), again_blossom), again_defect), again_obstacle), again_reset), again_load), again_grow) k h

-- so do the numbers that a word of that kind has in its fields
module _ (w : ℕ) where
  of_kind : (found : Option ℕ) → kind_of_word w ≡ found → again (asks_in w found) (Ok (used_in w found)) ≡ Ok (used_in w found)
  unfolding is_kind
  of_kind none e = refl
  of_kind (some k) e =
      let (h, is) = kind_found w k e in
      let whole = kept w k h (eqb-true _ _ (and_left _ _ is)) (eqb-true _ _ (and_right _ _ is)) in
      rw (← whole) (packs_again _ _ k h (field_lt (kind_at k).a w) (field_lt (kind_at k).b w))

  of_word_lem : again (unpacked w) (Ok (spare_zero w)) ≡ Ok (spare_zero w)
  unfolding unpacked spare_zero
  of_word_lem = of_kind (kind_of_word w) refl

  -- PACK OF UNPACK is the word with its spare bits zero
  pub pack_of_unpack : (i : Instruction) → unpacked w ≡ Ok (Says i) → packed i ≡ Ok (spare_zero w)
  pack_of_unpack i e = rw e at of_word_lem

  pub reset_of_unpack : unpacked w ≡ Ok Reset → packed_reset ≡ Ok (spare_zero w)
  reset_of_unpack e = rw e at of_word_lem
