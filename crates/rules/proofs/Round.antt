-- A word keeps what is put in it, since each register has bits of its own: what is in range comes back.
use Prim.Native.Nat.{ℕ, ◌/◌, ◌%◌, ◌<◌, ◌≤◌}
use mathlib.Core.Path.{◌≡◌, refl}
use mathlib.Core.Bool.{Bool, true, false}
use mathlib.Core.List.{List}
use native.Mathlib.Omega.{arith}
use lib.Dec.{eqb}
use lib.ListN.{get_or}
use Rattle.laws.specs.Choice.{pick}
use Rattle.laws.specs.Fold.{bit, bit_most}
use Rattle.rules.specs.Numbers.{speed_code}
use Rattle.rules.specs.Registers.{view, keep, speed_of, at}
use Rattle.rules.specs.declared.instruction.CompactGrowState.{CompactGrowState}
use Rattle.rules.specs.declared.instruction.CompactGrowState.TheVariants.{Stay, Grow, Shrink}
use Rattle.rules.specs.declared.registers.VertexRegisters.{VertexRegisters}

pub record InRange (x : VertexRegisters) : Type 0 where
  pub grown : x.grown < 67_108_864
  pub node : x.node.0 < 65_536
  pub root : x.root.0 < 65_536

pub view_in_range : (w : ℕ) → InRange (view w)
unfolding view
view_in_range w = record { grown = omega arith; node = omega arith; root = omega arith }

pub at_in_range : (rs : List ℕ) (v : ℕ) → InRange (at rs v)
unfolding at
at_in_range rs v = view_in_range (get_or rs v 0)

code_small : (s : CompactGrowState) → speed_code s ≤ 2
code_small Stay = omega arith
code_small Grow = omega arith
code_small Shrink = omega arith

speed_back : (s : CompactGrowState) → speed_of (speed_code s) ≡ s
unfolding speed_of pick
speed_back Stay = refl
speed_back Grow = refl
speed_back Shrink = refl

bit_back : (b : Bool) → eqb (bit b) 1 ≡ b
bit_back true = refl
bit_back false = refl

module _ (x : VertexRegisters) (h : InRange x) where
  grown_back : keep x % 67_108_864 ≡ x.grown
  unfolding keep
  grown_back = omega arith

  node_back : keep x / 67_108_864 % 65_536 ≡ x.node.0
  unfolding keep
  node_back = omega arith

  root_back : keep x / 4_398_046_511_104 % 65_536 ≡ x.root.0
  unfolding keep
  root_back = omega arith

  code_back : keep x / 288_230_376_151_711_744 % 4 ≡ speed_code x.speed
  unfolding keep
  code_back = omega (arith, code_small x.speed)

  virtual_back : keep x / 1_152_921_504_606_846_976 % 2 ≡ bit x.is_virtual
  unfolding keep
  virtual_back = omega (arith, code_small x.speed, bit_most x.is_virtual)

  defect_back : keep x / 2_305_843_009_213_693_952 % 2 ≡ bit x.is_defect
  unfolding keep
  defect_back = omega (arith, code_small x.speed, bit_most x.is_virtual, bit_most x.is_defect)

  pub round : view (keep x) ≡ x
  unfolding view
  round = rw (grown_back, node_back, root_back, code_back, virtual_back, defect_back, speed_back, bit_back x.is_virtual, bit_back x.is_defect)
