-- What is left behind the first raised flag: its number is the first, and the flags behind it have the others.
use Rattle.std.proofs.Common.{ℕ, suc, zero, ◌+◌, ◌-◌, ◌<◌, ◌≡◌, Bool, true, false, List, [], ◌∷◌, length, get_or, take, drop, position, refl, sym, ◌∙◌, arith, add-zero, add-suc, suc-add, add-one, take_all, length-drop}
use Rattle.std.specs.Prelude.{Option, Some, None}
use Rattle.std.specs.List.{position_from}
use Rattle.std.proofs.lemmas.List.Quantifiers.{position-Some}
use Rattle.std.proofs.lemmas.Iterator.Adapters.{position_from-zero}
use Rattle.rules.specs.Pairs.{raised_from}

abbrev first : List Bool → Option ℕ
first = position (λ on. on)

raised_at : (n k : ℕ) (flags : List Bool) → k < length flags → get_or flags k false ≡ true → ((j : ℕ) → j < k → get_or flags j false ≡ false)
    → raised_from n flags ≡ (n + k) ∷ raised_from (suc (n + k)) (drop (suc k) flags)
raised_at n k [] l t f = absurd (omega arith)
raised_at n zero (true ∷ flags) l t f = rw (add-zero n) refl
raised_at n zero (false ∷ flags) l t f = cc
raised_at n (suc k) (true ∷ flags) l t f = let e = f 0 (omega arith) in cc
raised_at n (suc k) (false ∷ flags) l t f = rw (add-suc, ← suc-add) (raised_at (suc n) k flags (omega arith) t (λ j h. f (suc j) (omega arith)))

pub next_raised : (n k : ℕ) (flags : List Bool) → Some k ≡ first flags → raised_from n flags ≡ (n + k) ∷ raised_from (n + k + 1) (take (length flags - (k + 1)) (drop (k + 1) flags))
next_raised n k flags p =
    let h = position-Some (λ on. on) flags k false (sym p) in
    rw (take_all (length flags - (k + 1)) (drop (k + 1) flags) (omega (arith, length-drop (k + 1) flags)), add-one (n + k), add-one k)
    (raised_at n k flags h.0 h.1 h.2)

none_from : (n i : ℕ) (flags : List Bool) → None ≡ position_from (λ on. on) i flags → raised_from n flags ≡ []
none_from n i [] p = refl
none_from n i (true ∷ flags) p = cc
none_from n i (false ∷ flags) p = none_from (suc n) (i + 1) flags p

pub no_next : (n : ℕ) (flags : List Bool) → None ≡ first flags → raised_from n flags ≡ []
no_next n flags p = none_from n 0 flags (p ∙ position_from-zero (λ on. on) flags)
