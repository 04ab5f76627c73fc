-- No edge before e refuses, and the counts are those of the edges before e.
use Rattle.laws.specs.First.{first}
use Rattle.laws.specs.Table.{table}
use Rattle.rules.specs.Image.{edges_at, edge_refusal}
use Rattle.std.proofs.Common.{◌≡◌}
use Rattle.std.proofs.Math.Option.{none}
use Rattle.image_refusal.proofs.edges_refusal.Given as goal

abbrev pub invariant-loop-e : goal.invariant-loop-e
invariant-loop-e l = record { counted : l.counts ≡ table 256 (edges_at l.bytes l.e); passed : first l.e (edge_refusal l.bytes) ≡ none }
