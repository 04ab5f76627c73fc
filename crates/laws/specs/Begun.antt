-- A fill that has begun from an array known by an equation.
use Rattle.std.specs.Prelude.{ℕ, ◌≡◌, List}
use Rattle.std.proofs.Common.{◌∙◌}
use Rattle.laws.specs.Table.{paint, paint_none}

pub paint_begun : {A : Type 0} (f : ℕ → A) {xs ys : List A} → ys ≡ xs → ys ≡ paint 0 f xs
paint_begun f {xs} p = p ∙ paint_none f xs
