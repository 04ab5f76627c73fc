-- The code's answers in the words of rules/specs/Image.antt.
use Rattle.std.specs.Prelude.{◌≡◌, refl, ℕ, Bool, not, eqb, leb, ltb, Result, Ok, Err}
use Rattle.std.proofs.Math.Option.{Option, none, some}
use Rattle.laws.specs.Choice.{◌and◌, ◌or◌, pick}
use Rattle.laws.specs.First.{or_else}
use Rattle.rules.specs.Image.{refuse_if}
use Rattle.rules.specs.declared.refusal.Refusal.{Refusal}
use Rattle.rules.specs.declared.refusal.Refusal.TheVariants as R
use Rattle.image_records.specs.declared.EdgeRecord.{EdgeRecord}
use Rattle.image_records.specs.declared.UnitRecord.{UnitRecord}

unfoldable pub check_of : Option Refusal → Result Unit Refusal
check_of none = Ok tt
check_of (some r) = Err r

-- a check that passed had no refusal
pub passed : (o : Option Refusal) → check_of o ≡ Ok tt → o ≡ none
unfolding check_of
passed none h = refl
passed (some r) h = cc

unfoldable pub is_end_of : ℕ → EdgeRecord → Bool
is_end_of v x = eqb x.left v or eqb x.right v

-- 7, 8 and 9, which an edge's own record shows
unfoldable pub record_refusal : ℕ → EdgeRecord → Option Refusal
record_refusal v x =
    or_else (refuse_if (leb v x.left or leb v x.right or eqb x.left x.right) R.EdgeEnds)
    (or_else (refuse_if (ltb 1_000_000 x.weight) R.Weight)
    (refuse_if (not (eqb x.condition 65_535) and not (is_end_of x.condition x)) R.Condition))

unfoldable pub misnames : UnitRecord → EdgeRecord → Bool
misnames u x = pick (eqb u.kind 0) (not (eqb u.vertex 65_535)) (not (is_end_of u.vertex x))
