-- Reports form a semilattice: an odd edge outdoes all, the lesser of two edge indices and the least of two lengths mind neither order nor
-- repetition, and no limit changes nothing.
use Rattle.std.proofs.Common.{ℕ, ◌≡◌, refl, ap, arith}
use Rattle.laws.specs.Semilattice.{Semilattice}
use Rattle.interface.proofs.Join.{least_assoc, least_comm, least_idem, least_unit}
use Rattle.comb_cycle.specs.Strongest.{silent, stronger}
use Rattle.comb_cycle.specs.declared.report.Report.{Report}
use Rattle.comb_cycle.specs.declared.report.Report.TheVariants.{Odd, Conflict, Length}

abbrev pub conflict_at : ℕ → Report
conflict_at e = Conflict (record { 0 = e })

stronger_assoc : (a b c : Report) → stronger (stronger a b) c ≡ stronger a (stronger b c)
stronger_assoc Odd b c = refl
stronger_assoc (Conflict e) Odd c = refl
stronger_assoc (Conflict e) (Conflict f) Odd = refl
stronger_assoc (Conflict e) (Conflict f) (Conflict g) = ap conflict_at (omega arith)
stronger_assoc (Conflict e) (Conflict f) (Length m) = refl
stronger_assoc (Conflict e) (Length l) Odd = refl
stronger_assoc (Conflict e) (Length l) (Conflict g) = refl
stronger_assoc (Conflict e) (Length l) (Length m) = refl
stronger_assoc (Length l) Odd c = refl
stronger_assoc (Length l) (Conflict f) Odd = refl
stronger_assoc (Length l) (Conflict f) (Conflict g) = refl
stronger_assoc (Length l) (Conflict f) (Length m) = refl
stronger_assoc (Length l) (Length m) Odd = refl
stronger_assoc (Length l) (Length m) (Conflict g) = refl
stronger_assoc (Length l) (Length m) (Length n) = ap Length (least_assoc l m n)

stronger_comm : (a b : Report) → stronger a b ≡ stronger b a
stronger_comm Odd Odd = refl
stronger_comm Odd (Conflict f) = refl
stronger_comm Odd (Length m) = refl
stronger_comm (Conflict e) Odd = refl
stronger_comm (Conflict e) (Conflict f) = ap conflict_at (omega arith)
stronger_comm (Conflict e) (Length m) = refl
stronger_comm (Length l) Odd = refl
stronger_comm (Length l) (Conflict f) = refl
stronger_comm (Length l) (Length m) = ap Length (least_comm l m)

stronger_idem : (a : Report) → stronger a a ≡ a
stronger_idem Odd = refl
stronger_idem (Conflict e) = ap conflict_at (omega arith)
stronger_idem (Length l) = ap Length (least_idem l)

stronger_unit : (a : Report) → stronger a silent ≡ a
stronger_unit Odd = refl
stronger_unit (Conflict e) = refl
stronger_unit (Length l) = ap Length (least_unit l)

pub strengths : Semilattice stronger silent
strengths = record { assoc = stronger_assoc; comm = stronger_comm; idem = stronger_idem; unit = stronger_unit }
