-- The table is painted vertex by vertex.
use Rattle.board.specs.Board.{vertices_on}
use Rattle.comb_lent.specs.Fresh.{fresh_word}
use Rattle.laws.specs.Table.{paint}
use Rattle.std.proofs.Common.{◌≡◌, replicate}
use Rattle.comb_lent.proofs.reset.fresh_registers.Given as goal

abbrev pub invariant-loop-v : goal.invariant-loop-v
invariant-loop-v l = l.registers ≡ paint l.v (fresh_word (vertices_on l.board.table)) (replicate 256 0)
