-- `all` over a range asks at each number, as the definition does.
use Rattle.std.proofs.Common.{ℕ, zero, suc, ◌+◌, ◌≡◌, refl, sym, ◌∙◌, add-one, zero-add, Bool, true, false, ◌&&◌}
use Rattle.std.specs.List.{range_with_len, list_all}
use Rattle.std.proofs.lemmas.List.FromFn.{map-range_with_len_more}
use Rattle.std.proofs.lemmas.List.Folds.{list_all-append, list_all-map}
use Rattle.laws.specs.Choice.{◌and◌}
use Rattle.laws.specs.Fold.{up_to, all_to}

one_more : (a b : Bool) → (a && (b && true)) ≡ (a and b)
unfolding ◌and◌
one_more true true = refl
one_more true false = refl
one_more false b = refl

module _ (p : ℕ → Bool) where
  step : (n : ℕ) → list_all p (range_with_len 0 (n + 1)) ≡ (list_all p (range_with_len 0 n) and p n)
  step n =
      sym (list_all-map (λ b. b) p (range_with_len 0 (n + 1)))
      ∙ rw (map-range_with_len_more p 0 n n (zero-add n), list_all-append, list_all-map) (one_more (list_all p (range_with_len 0 n)) (p n))

  pub all_listed : (n : ℕ) → list_all p (range_with_len 0 n) ≡ all_to p n
  unfolding up_to
  all_listed zero = refl
  all_listed (suc n) = rw add-one at (step n) ∙ rw (all_listed n)
