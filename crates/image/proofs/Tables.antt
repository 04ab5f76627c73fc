-- A table with f k at each k below n, and 0 behind, is a blank table painted with f up to n.
use Rattle.std.proofs.Common.{◌≡◌, ℕ, ◌<◌, ◌≤◌, ◌⊎◌, inl, inr, List, length, get_or, replicate, sym, ◌∙◌, arith}
use Rattle.std.proofs.Math.ListN.{length-replicate}
use Rattle.std.proofs.lemmas.List.{ext_get_or, get_or-replicate}
use Rattle.std.proofs.lemmas.Bool.{cases_lt}
use Rattle.laws.specs.Table.{paint, length_paint, get_or_painted, paint_at}

module _ (f : ℕ → ℕ) (n m : ℕ) (ws : List ℕ) (long : length ws ≡ m) (each : (k : ℕ) → k < n → get_or ws k 0 ≡ f k) (rest : (k : ℕ) → n ≤ k → get_or ws k 0 ≡ 0) where
  same : (k : ℕ) → (k < n) ⊎ (n ≤ k) → k < m → get_or ws k 0 ≡ get_or (paint n f (replicate m 0)) k 0
  same k (inl l) h = each k l ∙ sym (get_or_painted f n (replicate m 0) k 0 l (rw length-replicate h))
  same k (inr l) h = rest k l ∙ paint_at f (λ y. 0 ≡ y) 0 n (replicate m 0) k (λ q. absurd (omega arith)) (sym (get_or-replicate m k 0 0 h))

  pub painted : ws ≡ paint n f (replicate m 0)
  painted =
      let same_length : length ws ≡ length (paint n f (replicate m 0)) = rw (length_paint, length-replicate) long in
      ext_get_or 0 _ _ same_length (λ k h. same k (cases_lt k n) (omega (arith, long)))
