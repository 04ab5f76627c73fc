-- Document 01's numbers for what the code says by names: speeds, lengths, refusals.
use Rattle.std.specs.Prelude.{ℕ, ℤ, pos, neg_ℤ}
use Rattle.rules.specs.declared.instruction.CompactGrowState.{CompactGrowState}
use Rattle.rules.specs.declared.instruction.CompactGrowState.TheVariants.{Stay, Grow, Shrink}
use Rattle.rules.specs.declared.finding.Length.{Length}
use Rattle.rules.specs.declared.finding.Length.TheVariants.{NoLimit, Ahead, Behind}
use Rattle.rules.specs.declared.refusal.Refusal.{Refusal}
use Rattle.rules.specs.declared.refusal.Refusal.TheVariants as R

-- "Stay 0, Grow 1, Shrink 2 as codes"
abbrev pub speed_code : CompactGrowState → ℕ
speed_code Stay = 0
speed_code Grow = 1
speed_code Shrink = 2

-- "0, +1, -1 as speeds"
abbrev pub speed : CompactGrowState → ℤ
speed Stay = pos 0
speed Grow = pos 1
speed Shrink = neg_ℤ (pos 1)

-- "lengths signed 32 bits, 2,147,483,647 meaning no limit"
abbrev pub signed : Length → ℤ
signed NoLimit = pos 2_147_483_647
signed (Ahead n) = pos n
signed (Behind n) = neg_ℤ (pos n)

-- "Refusal numbers, in order of checking"
abbrev pub refusal_number : Refusal → ℕ
refusal_number R.NotAnImage = 1
refusal_number R.VertexCount = 2
refusal_number R.EdgeCount = 3
refusal_number R.UnitCount = 4
refusal_number R.CutShort = 5
refusal_number R.VertexRecord = 6
refusal_number R.EdgeEnds = 7
refusal_number R.Weight = 8
refusal_number R.Condition = 9
refusal_number R.Crowded = 10
refusal_number R.UnitRecord = 11
refusal_number R.NotCarried = 12
refusal_number R.OutOfBounds = 13
refusal_number R.BelowZero = 14
refusal_number R.AboveBound = 15
refusal_number R.OddRemaining = 16
refusal_number R.NegativeLength = 17
refusal_number R.SessionRecord = 18
refusal_number R.ListTooLong = 19
