-- Unpacking what was packed gives it back: the word is found to be of its row's kind, and the field law reads its numbers.
use Rattle.std.proofs.Common.{ℕ, ◌+◌, ◌*◌, ◌-◌, ◌^◌, ◌<◌, ◌≡◌, ◌∙◌, ap, true, mul_assoc, zero-add, zero-mul, arith, leb, lit<, pow-add, leb-true, Ok}
use Rattle.laws.specs.Choice.{and_left, and_right}
use Rattle.rules.specs.Words.{asks, field_of, in_bounds, kind_at, speed_asked, unpacked, word_for, word_of}
use Rattle.rules.specs.declared.instruction.CompactGrowState.TheVariants.{Stay, Grow, Shrink}
use Rattle.rules.specs.declared.instruction.Instruction.{Instruction}
use Rattle.rules.specs.declared.instruction.Instruction.TheVariants.{SetSpeed, SetBlossom, AddDefectVertex, FindObstacle, Grow as GrowBy, LoadDefectsExternal}
use Rattle.rules.specs.declared.instruction.Asked.TheVariants.{Says, Reset}
use Rattle.rules.specs.declared.instruction.WordKind.{WordKind}
use Rattle.instruction.specs.Sound.{Sound}
use Rattle.instruction.proofs.Table.{sound}
use Rattle.instruction.proofs.Fields.{read_back, below_a, fits}
use Rattle.instruction.proofs.KindOfWord.{own_kind}

-- both fields are read back
module _ (kind : WordKind) (a b : ℕ) (s : Sound kind) (hb : b < 2 ^ kind.b.width) where
  read_a : a < 2 ^ kind.a.width → field_of kind.a (word_of kind a b) ≡ a
  unfolding word_of
  read_a ha = simp (zero-mul, zero-add) at (read_back kind.a 0 a _ ha (below_a kind a b s hb))

  read_b : field_of kind.b (word_of kind a b) ≡ b
  unfolding word_of
  read_b =
      let gap = kind.a.at - (kind.b.at + kind.b.width) in
      let e : kind.a.at ≡ gap + (kind.b.at + kind.b.width) = omega (arith, s.meets) in
      let over : a * 2 ^ kind.a.at ≡ a * 2 ^ gap * 2 ^ (kind.b.at + kind.b.width) = ap (λ (n : ℕ). a * 2 ^ n) e ∙ rw (pow-add 2 gap, mul_assoc) in
      rw over (read_back kind.b (a * 2 ^ gap) b _ hb s.fixed)

-- a word made from a row says what the row asks, and has 32 bits
carried : (k a b : ℕ) → k < 7 → a < 2 ^ (kind_at k).a.width → b < 2 ^ (kind_at k).b.width → (unpacked (word_of (kind_at k) a b) ≡ asks k a b) × (word_of (kind_at k) a b < 2 ^ 32)
unfolding unpacked word_of
carried k a b h ha hb =
    (rw (own_kind a b k h, read_a (kind_at k) a b (sound k h) hb ha, read_b (kind_at k) a b (sound k h) hb), (fits (kind_at k) a b (sound k h) hb ha).whole)

index : (n : ℕ) → leb n 32_767 ≡ true → n < 2 ^ 15
index n e = omega (arith, leb-true n 32_767 e)

-- UNPACK OF PACK is the same instruction, for every one that packs, and reset; and the word has 32 bits
pub unpack_of_pack : (i : Instruction) → in_bounds i ≡ true → (unpacked (word_for i) ≡ Ok (Says i)) × (word_for i < 2 ^ 32)
unfolding in_bounds word_for asks speed_asked
unpack_of_pack (SetSpeed n Stay) e = carried 0 n.0 0 (lit< tt) (index _ e) (lit< tt)
unpack_of_pack (SetSpeed n Grow) e = carried 0 n.0 1 (lit< tt) (index _ e) (lit< tt)
unpack_of_pack (SetSpeed n Shrink) e = carried 0 n.0 2 (lit< tt) (index _ e) (lit< tt)
unpack_of_pack (SetBlossom n b) e = carried 1 n.0 b.0 (lit< tt) (index _ (and_left _ _ e)) (index _ (and_right _ _ e))
unpack_of_pack (AddDefectVertex v n) e = carried 2 v.0 n.0 (lit< tt) (index _ (and_left _ _ e)) (index _ (and_right _ _ e))
unpack_of_pack FindObstacle e = carried 3 0 0 (lit< tt) (lit< tt) (lit< tt)
unpack_of_pack (GrowBy l) e = carried 6 l 0 (lit< tt) (omega (arith, leb-true l 67_108_863 e)) (lit< tt)
unpack_of_pack (LoadDefectsExternal t) e = carried 5 t.0 0 (lit< tt) (index _ e) (lit< tt)

pub unpack_of_reset : (unpacked (word_of (kind_at 4) 0 0) ≡ Ok Reset) × (word_of (kind_at 4) 0 0 < 2 ^ 32)
unfolding asks
unpack_of_reset = carried 4 0 0 (lit< tt) (lit< tt) (lit< tt)
