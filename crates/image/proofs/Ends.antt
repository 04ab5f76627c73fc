-- An accepted edge's ends are below 256, since there are at most 256 vertices.
use Rattle.std.proofs.Common.{◌≡◌, ℕ, ◌<◌, List, arith}
use Rattle.std.proofs.Math.Option.{none}
use Rattle.rules.specs.Image.{edge_count, edge_left, edge_right, image_refusal}
use Rattle.image_refusal.specs.Accepted.{vertices_fit, head_passes, edge_passes, left_inside, right_inside}

module _ (bs : List ℕ) (e : ℕ) (h : image_refusal bs ≡ none) (l : e < edge_count bs) where
  pub left_low : edge_left bs e < 256
  left_low = omega (arith, left_inside bs e (edge_passes bs h e l), vertices_fit bs (head_passes bs h))

  pub right_low : edge_right bs e < 256
  right_low = omega (arith, right_inside bs e (edge_passes bs h e l), vertices_fit bs (head_passes bs h))
