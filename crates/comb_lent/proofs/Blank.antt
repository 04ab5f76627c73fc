-- The registers that a reset leaves are painted vertex by vertex: one with a layer starts virtual, another as its mark says.
use Rattle.std.specs.Prelude.{ℕ, ◌≡◌, refl, List, replicate}
use Rattle.laws.specs.Table.{paint}
use Rattle.rules.specs.State.{fresh_registers}
use Rattle.comb_lent.specs.Fresh.{fresh_word}

pub fresh_all : (vs : List ℕ) (nv : ℕ) → paint nv (fresh_word vs) (replicate 256 0) ≡ fresh_registers vs nv
unfolding fresh_registers
fresh_all vs nv = refl
