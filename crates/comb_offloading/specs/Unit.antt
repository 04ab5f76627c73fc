-- A unit with numbers that fit their tables, as the code has it, and the unit of the rules that it is. Those in any word fit, so a unit is taken out
-- of its word without a test.
use Rattle.std.specs.Prelude.{ℕ, ◌/◌, ◌%◌, ◌<◌, ◌≡◌, Bool, true, false, eqb}
use Rattle.std.proofs.Common.{arith}
use Rattle.laws.specs.Choice.{pick}
use Rattle.rules.specs.Graph.{unit_of}
use Rattle.rules.specs.Units.{edge_of}
use Rattle.rules.specs.declared.graph.OffloadingType.{OffloadingType}
use Rattle.rules.specs.declared.graph.OffloadingType.TheVariants.{DefectMatch, VirtualMatch, FusionMatch}
use Rattle.comb_offloading.specs.declared.unit.OffloadingUnit.{OffloadingUnit}
use Rattle.comb_offloading.specs.declared.unit.OffloadingUnit.TheVariants as unit

abbrev pub says : OffloadingUnit → OffloadingType
says (unit.DefectMatch e) = DefectMatch (record { 0 = e.number })
says (unit.VirtualMatch e v) = VirtualMatch (record { 0 = e.number }) (record { 0 = v })
says (unit.FusionMatch e v) = FusionMatch (record { 0 = e.number }) (record { 0 = v })

abbrev pub vertex_of : OffloadingType → ℕ
vertex_of (DefectMatch e) = 0
vertex_of (VirtualMatch e w) = w.0
vertex_of (FusionMatch e w) = w.0

pub record Within (u : OffloadingType) : Type 0 where
  pub edge : edge_of u < 1_024
  pub vertex : vertex_of u < 256

by_kind : (e w : ℕ) (a b : Bool) → e < 1_024 → w < 256
    → Within (pick a (DefectMatch (record { 0 = e })) (pick b (VirtualMatch (record { 0 = e }) (record { 0 = w })) (FusionMatch (record { 0 = e }) (record { 0 = w }))))
unfolding pick
by_kind e w true b i j = record { edge = i; vertex = omega arith }
by_kind e w false true i j = record { edge = i; vertex = j }
by_kind e w false false i j = record { edge = i; vertex = j }

pub within : (w : ℕ) {u : OffloadingType} → u ≡ unit_of w → Within u
unfolding unit_of
within w p = rw p (by_kind (w % 1_024) (w / 1_024 % 256) (eqb (w / 262_144) 0) (eqb (w / 262_144) 1) (omega arith) (omega arith))
