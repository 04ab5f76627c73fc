-- The first edge that refuses decides.
use Rattle.rules.specs.Image.{edge_refusal}
use Rattle.std.proofs.Common.{rules}
use Rattle.image_refusal.proofs.Walks.{stops}
use Rattle.image_refusal.proofs.edges_refusal.Goals as goal

pub returns-in_err-edge_refusal : goal.returns-in_err-edge_refusal
returns-in_err-edge_refusal c =
    stops (edge_refusal c.args.bytes.now) c.loop-e.e c.args.n _ (search rules) c.from_residual.ensures.0 c.loop-e.invariant.passed c.loop-e-test.true
