-- The flags that are raised are as many as their bits add up to, and there are none where no flag is.
use Rattle.std.proofs.Common.{ℕ, suc, ◌+◌, ◌≡◌, Bool, true, false, List, [], ◌∷◌, length, sum_by, refl, sym, arith}
use Rattle.std.specs.List.{list_any}
use Rattle.std.proofs.lemmas.List.Recursion.{is_sum_by}
use Rattle.rules.specs.Pairs.{raised_from}
use Rattle.laws.specs.Fold.{bit}

-- from whatever number on
as_many_from : (i j : ℕ) (flags : List Bool) → length (raised_from i flags) ≡ length (raised_from j flags)
as_many_from i j [] = refl
as_many_from i j (true ∷ flags) = omega (arith, as_many_from (suc i) (suc j) flags)
as_many_from i j (false ∷ flags) = as_many_from (suc i) (suc j) flags

one_more : (b : Bool) (flags : List Bool) → length (raised_from 0 (b ∷ flags)) ≡ bit b + length (raised_from 0 flags)
one_more true flags = omega (arith, as_many_from 1 0 flags)
one_more false flags = omega (arith, as_many_from 1 0 flags)

pub bits_are_raised : (flags : List Bool) → sum_by bit flags ≡ length (raised_from 0 flags)
bits_are_raised flags = sym (is_sum_by (λ flags. length (raised_from 0 flags)) bit refl one_more flags)

pub no_raised : (i : ℕ) (flags : List Bool) → list_any (λ on. on) flags ≡ false → raised_from i flags ≡ []
no_raised i [] h = refl
no_raised i (true ∷ flags) h = cc
no_raised i (false ∷ flags) h = no_raised (suc i) flags h
