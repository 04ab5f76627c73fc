-- FindObstacle leaves the table, which held the registers.
use Rattle.comb_cycle.proofs.Staging.{finds}
use Rattle.std.proofs.Common.{rules}
use Rattle.comb_cycle.proofs.stages.execute_all.Goals as goal

pub returns-in-FindObstacle : goal.returns-in-FindObstacle
returns-in-FindObstacle c = search (rules, finds)
