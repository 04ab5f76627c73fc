-- The slice that is copied is the part.
use Rattle.board.specs.Board.{slice_part, defaults_on}
use Rattle.std.proofs.Common.{◌∙◌, arith}
use Rattle.board.proofs.defaults.Goals as goal

pub returns : goal.returns
unfolding defaults_on
returns c = c.copy_from_slice.ensures.after ∙ slice_part 1_024 7_696 c.args.table.now (omega arith)
