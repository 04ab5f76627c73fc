-- The reduction joins: any way of bracketing a row of findings gives the same, and no limit changes nothing on either side. The least of
-- lengths minds neither their order nor that one comes twice.
use Rattle.std.proofs.Common.{ℕ, min, max, ◌≡◌, refl, ap, arith}
use Rattle.rules.specs.Reduce.{least, reduce}
use Rattle.rules.specs.declared.finding.Length.{Length}
use Rattle.rules.specs.declared.finding.Length.TheVariants.{NoLimit, Ahead, Behind}
use Rattle.rules.specs.declared.finding.Finding.{Finding}
use Rattle.rules.specs.declared.finding.Finding.TheVariants.{GrowLength, Conflict}

min_assoc : (a b c : ℕ) → min (min a b) c ≡ min a (min b c)
min_assoc a b c = omega arith

max_assoc : (a b c : ℕ) → max (max a b) c ≡ max a (max b c)
max_assoc a b c = omega arith

pub least_assoc : (a b c : Length) → least (least a b) c ≡ least a (least b c)
least_assoc NoLimit b c = refl
least_assoc (Ahead n) NoLimit c = refl
least_assoc (Ahead n) (Ahead m) NoLimit = refl
least_assoc (Ahead n) (Ahead m) (Ahead k) = ap Ahead (min_assoc n m k)
least_assoc (Ahead n) (Ahead m) (Behind k) = refl
least_assoc (Ahead n) (Behind m) NoLimit = refl
least_assoc (Ahead n) (Behind m) (Ahead k) = refl
least_assoc (Ahead n) (Behind m) (Behind k) = refl
least_assoc (Behind n) NoLimit c = refl
least_assoc (Behind n) (Ahead m) NoLimit = refl
least_assoc (Behind n) (Ahead m) (Ahead k) = refl
least_assoc (Behind n) (Ahead m) (Behind k) = refl
least_assoc (Behind n) (Behind m) NoLimit = refl
least_assoc (Behind n) (Behind m) (Ahead k) = refl
least_assoc (Behind n) (Behind m) (Behind k) = ap Behind (max_assoc n m k)

pub least_comm : (a b : Length) → least a b ≡ least b a
least_comm NoLimit NoLimit = refl
least_comm NoLimit (Ahead m) = refl
least_comm NoLimit (Behind m) = refl
least_comm (Ahead n) NoLimit = refl
least_comm (Ahead n) (Ahead m) = ap Ahead (omega arith)
least_comm (Ahead n) (Behind m) = refl
least_comm (Behind n) NoLimit = refl
least_comm (Behind n) (Ahead m) = refl
least_comm (Behind n) (Behind m) = ap Behind (omega arith)

pub least_idem : (a : Length) → least a a ≡ a
least_idem NoLimit = refl
least_idem (Ahead n) = ap Ahead (omega arith)
least_idem (Behind n) = ap Behind (omega arith)

pub least_unit : (a : Length) → least a NoLimit ≡ a
least_unit NoLimit = refl
least_unit (Ahead n) = refl
least_unit (Behind n) = refl

pub reduce_assoc : (f g h : Finding) → reduce (reduce f g) h ≡ reduce f (reduce g h)
reduce_assoc (Conflict a b) g h = refl
reduce_assoc (GrowLength l) (Conflict a b) h = refl
reduce_assoc (GrowLength l) (GrowLength m) (Conflict a b) = refl
reduce_assoc (GrowLength l) (GrowLength m) (GrowLength n) = ap GrowLength (least_assoc l m n)

pub reduce_unit_left : (f : Finding) → reduce (GrowLength NoLimit) f ≡ f
reduce_unit_left (GrowLength l) = refl
reduce_unit_left (Conflict a b) = refl

pub reduce_unit_right : (f : Finding) → reduce f (GrowLength NoLimit) ≡ f
reduce_unit_right (GrowLength l) = ap GrowLength (least_unit l)
reduce_unit_right (Conflict a b) = refl
