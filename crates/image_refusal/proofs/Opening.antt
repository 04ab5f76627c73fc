-- The whole image: its head first, then vertices, edges and units.
use Rattle.std.specs.Result.{result_and}
use Rattle.std.proofs.Common.{◌≡◌, ℕ, ◌≤◌, Ok, List}
use Rattle.laws.specs.First.{first}
use Rattle.rules.specs.Image.{vertex_count, edge_count, unit_count, head_refusal, vertex_refusal, edge_refusal, unit_refusal, image_refusal}
use Rattle.image_refusal.specs.Accepted.{image_is, vertices_fit}
use Rattle.image_refusal.specs.Check.{check_of, passed}
use Rattle.image_refusal.proofs.Checks.{in_order}

module _ (bs : List ℕ) where
  pub image_checks : check_of (image_refusal bs) ≡ result_and (check_of (head_refusal bs))
      (result_and (check_of (first (vertex_count bs) (vertex_refusal bs)))
      (result_and (check_of (first (edge_count bs) (edge_refusal bs))) (check_of (first (unit_count bs) (unit_refusal bs)))))
  image_checks = rw image_is (simp in_order)

  pub few_vertices : check_of (head_refusal bs) ≡ Ok tt → vertex_count bs ≤ 256
  few_vertices h = vertices_fit bs (passed (head_refusal bs) h)

pub ruleset opening = (image_checks, few_vertices)
