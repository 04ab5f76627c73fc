-- A vertex's registers: in the hand, and in a table, where they stand in one word of 64 bits.
use Rattle.std.specs.Prelude.{ℕ, ◌+◌, ◌*◌, ◌/◌, ◌%◌, Bool, true, false, List, eqb, get_or}
use Rattle.laws.specs.Choice.{pick}
use Rattle.laws.specs.Fold.{bit}
use Rattle.rules.specs.Numbers.{speed_code}
use Rattle.rules.specs.declared.index.NodeIndex.{NodeIndex}
use Rattle.rules.specs.declared.instruction.CompactGrowState.{CompactGrowState}
use Rattle.rules.specs.declared.instruction.CompactGrowState.TheVariants.{Stay, Grow, Shrink}
use Rattle.rules.specs.declared.registers.VertexRegisters.{VertexRegisters}

-- "`Option` nodes become none, virtual or a number": none is 65,535, virtual 65,534, and any other number is itself
abbrev pub no_node : NodeIndex
no_node = record { 0 = 65_535 }

abbrev pub virtual_node : NodeIndex
virtual_node = record { 0 = 65_534 }

abbrev pub same_node : NodeIndex → NodeIndex → Bool
same_node m n = eqb m.0 n.0

abbrev pub growing : CompactGrowState → Bool
growing Stay = false
growing Grow = true
growing Shrink = false

abbrev pub shrinking : CompactGrowState → Bool
shrinking Stay = false
shrinking Grow = false
shrinking Shrink = true

-- ---- in a word, from the lowest bit: grown 26 bits, node 16, root 16, speed 2, virtual 1, defect 1

unfoldable pub speed_of : ℕ → CompactGrowState
speed_of code = pick (eqb code 1) Grow (pick (eqb code 2) Shrink Stay)

unfoldable pub view : ℕ → VertexRegisters
view w = record {
  speed = speed_of (w / 288_230_376_151_711_744 % 4);
  grown = w % 67_108_864;
  is_virtual = eqb (w / 1_152_921_504_606_846_976 % 2) 1;
  is_defect = eqb (w / 2_305_843_009_213_693_952 % 2) 1;
  node = record { 0 = w / 67_108_864 % 65_536 };
  root = record { 0 = w / 4_398_046_511_104 % 65_536 };
}

unfoldable pub keep : VertexRegisters → ℕ
keep x =
    x.grown % 67_108_864
    + x.node.0 * 67_108_864
    + x.root.0 * 4_398_046_511_104
    + speed_code x.speed * 288_230_376_151_711_744
    + bit x.is_virtual * 1_152_921_504_606_846_976
    + bit x.is_defect * 2_305_843_009_213_693_952

-- the registers of vertex v in a table
unfoldable pub at : List ℕ → ℕ → VertexRegisters
at rs v = view (get_or rs v 0)

-- ---- a fresh vertex

abbrev pub fresh_node : Bool → NodeIndex
fresh_node true = virtual_node
fresh_node false = no_node

-- "A fresh vertex is Stay, 0, no defect; virtual ones hold the virtual node as node and root"
unfoldable pub fresh : Bool → VertexRegisters
fresh v = record { speed = Stay; grown = 0; is_virtual = v; is_defect = false; node = fresh_node v; root = fresh_node v }
