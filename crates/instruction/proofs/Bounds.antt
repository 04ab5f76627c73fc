-- What the functions of packing.rt turn on: a number fits its field exactly where document 01's bounds let it.
use Rattle.std.proofs.Common.{ℕ, suc, ◌^◌, ◌<◌, ◌≤◌, ◌≡◌, refl, sym, ◌∙◌, Bool, true, false, leb, ltb, lt-ltb, le-ltb, Err, Ok}
use lib.Dec.{leb-suc-suc}
use Rattle.laws.specs.Choice.{◌and◌, pick}
use Rattle.rules.specs.Numbers.{speed_code}
use Rattle.rules.specs.Words.{in_bounds, kind_at, packed, packed_reset, word_for, word_of}
use Rattle.rules.specs.declared.index.LayerId.{LayerId}
use Rattle.rules.specs.declared.index.NodeIndex.{NodeIndex}
use Rattle.rules.specs.declared.index.VertexIndex.{VertexIndex}
use Rattle.rules.specs.declared.instruction.CompactGrowState.{CompactGrowState}
use Rattle.rules.specs.declared.instruction.CompactGrowState.TheVariants.{Stay, Grow, Shrink}
use Rattle.rules.specs.declared.instruction.Instruction.{Instruction}
use Rattle.rules.specs.declared.instruction.Instruction.TheVariants.{SetSpeed, SetBlossom, AddDefectVertex, FindObstacle, Grow as GrowBy, LoadDefectsExternal}
use Rattle.rules.specs.declared.instruction.WordKind.{WordKind}
use Rattle.rules.specs.Types.{Packed}
use Rattle.rules.specs.declared.refusal.Refusal.TheVariants.{OutOfBounds}
use Rattle.instruction.specs.Packing.{packed_as}

-- pack_as: the two tests on the row's widths
module _ (k a b : ℕ) {kind : WordKind} {ra : ℕ} (ea : ra ≡ 2 ^ kind.a.width) (row : kind ≡ kind_at k) where
  pub a_over : ra ≤ a → Err OutOfBounds ≡ packed_as (kind_at k) a b
  unfolding packed_as ◌and◌ pick
  a_over over = rw (← row, ← ea, le-ltb a ra over)

  module _ {rb : ℕ} (eb : rb ≡ 2 ^ kind.b.width) (fits : a < ra) where
    pub b_over : rb ≤ b → Err OutOfBounds ≡ packed_as (kind_at k) a b
    unfolding packed_as ◌and◌ pick
    b_over over = rw (← row, ← ea, ← eb, lt-ltb a ra fits, le-ltb b rb over)

    pub both_fit : (w : ℕ) → w ≡ word_of kind a b → b < rb → Ok w ≡ packed_as (kind_at k) a b
    unfolding packed_as ◌and◌ pick
    both_fit w e also = rw (← row, ← ea, ← eb, lt-ltb a ra fits, lt-ltb b rb also, e)

pub ruleset packing_as = (a_over, b_over, both_fit)

-- pack: a number below 2 ^ width is at most the document's largest
fits_speed : (s : CompactGrowState) → ltb (speed_code s) 4 ≡ true
fits_speed Stay = refl
fits_speed Grow = refl
fits_speed Shrink = refl

and_true : (t : Bool) → (t and true) ≡ t
unfolding ◌and◌
and_true true = refl
and_true false = refl

at_most : (n most : ℕ) → ltb n (suc most) ≡ leb n most
at_most n most = leb-suc-suc n most

pub speed_packs : (n : NodeIndex) (s : CompactGrowState) (code : ℕ) → code ≡ speed_code s → packed (SetSpeed n s) ≡ packed_as (kind_at 0) n.0 code
unfolding packed packed_as in_bounds word_for
speed_packs n s code e = rw (e, fits_speed s, and_true, at_most n.0 32_767)

pub blossom_packs : (n b : NodeIndex) → packed (SetBlossom n b) ≡ packed_as (kind_at 1) n.0 b.0
unfolding packed packed_as in_bounds word_for
blossom_packs n b = rw (at_most n.0 32_767, at_most b.0 32_767)

pub defect_packs : (v : VertexIndex) (n : NodeIndex) → packed (AddDefectVertex v n) ≡ packed_as (kind_at 2) v.0 n.0
unfolding packed packed_as in_bounds word_for
defect_packs v n = rw (at_most v.0 32_767, at_most n.0 32_767)

pub obstacle_packs : packed FindObstacle ≡ packed_as (kind_at 3) 0 0
unfolding packed packed_as in_bounds word_for ◌and◌
obstacle_packs = refl

pub reset_packs : packed_reset ≡ packed_as (kind_at 4) 0 0
unfolding packed_reset packed_as ◌and◌ pick
reset_packs = refl

pub load_packs : (t : LayerId) → packed (LoadDefectsExternal t) ≡ packed_as (kind_at 5) t.0 0
unfolding packed packed_as in_bounds word_for
load_packs t = rw (and_true, at_most t.0 32_767)

pub grow_packs : (l : ℕ) → packed (GrowBy l) ≡ packed_as (kind_at 6) l 0
unfolding packed packed_as in_bounds word_for
grow_packs l = rw (and_true, at_most l 67_108_863)

-- the arm for j of a match on i
pub in_arm : {i j : Instruction} {r p : Packed} → i ≡ j → r ≡ p → packed j ≡ p → r ≡ packed i
in_arm is e row = rw is (e ∙ sym row)

pub ruleset packing = (in_arm, speed_packs, blossom_packs, defect_packs, obstacle_packs, load_packs, grow_packs)

-- 13 is given exactly where document 01's bounds do not hold
refused : (t : Bool) (w : ℕ) → pick t (Ok w) (Err OutOfBounds) ≡ Err OutOfBounds → t ≡ false
unfolding pick
refused true w e = cc
refused false w e = refl

pub thirteen : (i : Instruction) → (packed i ≡ Err OutOfBounds → in_bounds i ≡ false) × (in_bounds i ≡ false → packed i ≡ Err OutOfBounds)
unfolding packed pick
thirteen i = (refused (in_bounds i) (word_for i), λ e. rw e)
