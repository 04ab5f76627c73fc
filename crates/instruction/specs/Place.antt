-- The place of each kind in the table of word kinds.
use Rattle.std.specs.Prelude.{ℕ}
use Rattle.instruction.specs.declared.kinds.Kind.{Kind}
use Rattle.instruction.specs.declared.kinds.Kind.TheVariants.{SetSpeed, SetBlossom, AddDefectVertex, FindObstacle, Reset, LoadDefectsExternal, Grow}

abbrev pub place : Kind → ℕ
place SetSpeed = 0
place SetBlossom = 1
place AddDefectVertex = 2
place FindObstacle = 3
place Reset = 4
place LoadDefectsExternal = 5
place Grow = 6
