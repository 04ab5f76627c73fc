-- What the rules say by names is what document 01 says by numbers: joint speeds, lesser and halved lengths, and which refusal has which number.
use Prim.Native.Nat.{ℕ, zero, suc, ◌*◌, ◌/◌, ◌%◌, ◌<◌, ◌≤◌, min, max}
use mathlib.Core.Path.{◌≡◌, refl, ap, ◌∙◌}
use mathlib.Core.Bool.{false}
use native.Mathlib.Nat.{zero-mul}
use native.Mathlib.Omega.{arith}
use borrow.Author.Tests.{leb-true, leb-false, eqb-false}
use lib.Dec.{leb, eqb}
use lib.IntN.{ℤ, pos, negsuc, neg_ℤ, ◌+ℤ◌, ◌*ℤ◌}
use lib.Signed.{le_z}
use Rattle.laws.specs.Choice.{pick, by_test}
use Rattle.rules.specs.Numbers.{speed, signed, refusal_number}
use Rattle.rules.specs.Respond.{joint, is_odd, half}
use Rattle.rules.specs.Reduce.{least}
use Rattle.rules.specs.declared.instruction.CompactGrowState.{CompactGrowState}
use Rattle.rules.specs.declared.instruction.CompactGrowState.TheVariants.{Stay, Grow, Shrink}
use Rattle.rules.specs.declared.finding.Length.{Length}
use Rattle.rules.specs.declared.finding.Length.TheVariants.{NoLimit, Ahead, Behind}
use Rattle.rules.specs.declared.refusal.Refusal.{Refusal}
use Rattle.rules.specs.declared.refusal.Refusal.TheVariants as R

-- ---- "joint speed not positive": the two speeds added, where that is positive, else 0

abbrev pub positive : ℤ → ℕ
positive (pos n) = n
positive (negsuc n) = 0

pub joint_is : (a b : CompactGrowState) → joint a b ≡ positive (speed a +ℤ speed b)
joint_is Stay Stay = refl
joint_is Stay Grow = refl
joint_is Stay Shrink = refl
joint_is Grow Stay = refl
joint_is Grow Grow = refl
joint_is Grow Shrink = refl
joint_is Shrink Stay = refl
joint_is Shrink Grow = refl
joint_is Shrink Shrink = refl

-- ---- "the least length": "lengths signed 32 bits, 2,147,483,647 meaning no limit"

abbrev pub lesser : ℤ → ℤ → ℤ
lesser x y = pick (le_z x y) x y

-- no length ahead is over what means no limit
abbrev pub Fits : Length → Type 0
Fits NoLimit = Unit {0}
Fits (Ahead n) = n ≤ 2_147_483_647
Fits (Behind n) = Unit {0}

both_ahead : (m n : ℕ) → lesser (pos m) (pos n) ≡ pos (min m n)
both_ahead m n =
    by_test (λ (z : ℤ). z ≡ pos (min m n)) (leb m n)
    (λ t. ap pos (let l : m ≤ n = leb-true m n t in omega arith)) (λ t. ap pos (let l : n < m = leb-false m n t in omega arith))

both_behind : (m n : ℕ) → lesser (neg_ℤ (pos m)) (neg_ℤ (pos n)) ≡ neg_ℤ (pos (max m n))
unfolding pick
both_behind zero zero = refl
both_behind zero (suc n) = let e : max 0 (suc n) ≡ suc n = omega arith in rw e
both_behind (suc m) zero = let e : max (suc m) 0 ≡ suc m = omega arith in rw e
both_behind (suc m) (suc n) =
    by_test (λ (z : ℤ). z ≡ neg_ℤ (pos (max (suc m) (suc n)))) (leb n m)
    (λ t. let l : n ≤ m = leb-true n m t in let e : max (suc m) (suc n) ≡ suc m = omega arith in rw e)
    (λ t. let l : m < n = leb-false n m t in let e : max (suc m) (suc n) ≡ suc n = omega arith in rw e)

second_behind : (n m : ℕ) → lesser (pos n) (neg_ℤ (pos m)) ≡ neg_ℤ (pos m)
unfolding pick
second_behind n zero = both_ahead n 0 ∙ ap pos (omega arith)
second_behind n (suc m) = refl

first_behind : (m n : ℕ) → lesser (neg_ℤ (pos m)) (pos n) ≡ neg_ℤ (pos m)
unfolding pick
first_behind zero n = both_ahead 0 n ∙ ap pos (omega arith)
first_behind (suc m) n = refl

pub least_is : (a b : Length) → Fits a → Fits b → lesser (signed a) (signed b) ≡ signed (least a b)
least_is NoLimit NoLimit p q = both_ahead 2_147_483_647 2_147_483_647 ∙ ap pos (omega arith)
least_is NoLimit (Ahead m) p q = both_ahead 2_147_483_647 m ∙ ap pos (omega arith)
least_is NoLimit (Behind m) p q = second_behind _ m
least_is (Ahead n) NoLimit p q = both_ahead n 2_147_483_647 ∙ ap pos (omega arith)
least_is (Ahead n) (Ahead m) p q = both_ahead n m
least_is (Ahead n) (Behind m) p q = second_behind n m
least_is (Behind n) NoLimit p q = first_behind n _
least_is (Behind n) (Ahead m) p q = first_behind n m
least_is (Behind n) (Behind m) p q = both_behind n m

-- ---- "remaining / joint speed", at joint speed 2: exact, where the remaining is not odd

abbrev pub Limited : Length → Type 0
Limited NoLimit = ⊥
Limited (Ahead n) = Unit {0}
Limited (Behind n) = Unit {0}

doubled : (n : ℕ) → eqb (n % 2) 1 ≡ false → n / 2 * 2 ≡ n
doubled n e = let z : n % 2 ≡ 1 → ⊥ = eqb-false (n % 2) 1 e in omega arith

behind_times : (m k : ℕ) → neg_ℤ (pos m) *ℤ pos k ≡ neg_ℤ (pos (m * k))
behind_times zero k = rw (zero-mul k)
behind_times (suc m) k = refl

pub half_is : (l : Length) → Limited l → is_odd l ≡ false → signed (half l) *ℤ pos 2 ≡ signed l
half_is NoLimit p e = absurd p
half_is (Ahead n) p e = ap pos (doubled n e)
half_is (Behind n) p e = behind_times (n / 2) 2 ∙ ap (λ (m : ℕ). neg_ℤ (pos m)) (doubled n e)

-- ---- 14 is one refusal

pub only_14 : (r : Refusal) → refusal_number r ≡ 14 → r ≡ R.BelowZero
only_14 R.NotAnImage e = absurd (omega arith)
only_14 R.VertexCount e = absurd (omega arith)
only_14 R.EdgeCount e = absurd (omega arith)
only_14 R.UnitCount e = absurd (omega arith)
only_14 R.CutShort e = absurd (omega arith)
only_14 R.VertexRecord e = absurd (omega arith)
only_14 R.EdgeEnds e = absurd (omega arith)
only_14 R.Weight e = absurd (omega arith)
only_14 R.Condition e = absurd (omega arith)
only_14 R.Crowded e = absurd (omega arith)
only_14 R.UnitRecord e = absurd (omega arith)
only_14 R.NotCarried e = absurd (omega arith)
only_14 R.OutOfBounds e = absurd (omega arith)
only_14 R.BelowZero e = refl
only_14 R.AboveBound e = absurd (omega arith)
only_14 R.OddRemaining e = absurd (omega arith)
only_14 R.NegativeLength e = absurd (omega arith)
only_14 R.SessionRecord e = absurd (omega arith)
only_14 R.ListTooLong e = absurd (omega arith)
