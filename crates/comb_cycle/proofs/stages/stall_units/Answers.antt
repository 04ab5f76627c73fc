-- From blank flags the units stall what document 01 says.
use Rattle.comb_cycle.proofs.Staging.{vertices_made, edges_made}
use Rattle.std.proofs.Common.{rules}
use Rattle.comb_cycle.proofs.stages.stall_units.Goals as goal

pub returns : goal.returns
returns c = record { vertices_after = search (rules, vertices_made); stalled_after = search (rules, edges_made) }
