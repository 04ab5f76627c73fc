-- The raised flags below e: what a walk over the flags has met when it stands at e, and when it has met them all.
use Rattle.std.specs.Prelude.{ℕ, zero, suc, ◌+◌, ◌-◌, ◌≤◌, ◌<◌, ◌≡◌, Bool, true, false, not, ◌||◌, List, [], ◌∷◌, ◌++◌, ltb, length, take, get_or}
use Rattle.std.proofs.Math.Path.{refl}
use Rattle.std.proofs.Common.{sym, ap, ap₂, ◌∙◌, add-zero, zero-add, add-suc, suc-add, add-one, arith, length-append, take_all, ltb-false, lt-ltb}
use Rattle.std.proofs.lemmas.Bool.{not-true}
use Rattle.laws.specs.Fold.{bit}
use Rattle.rules.specs.Pairs.{raised_from}

-- an edge's number where it is stalled
unfoldable pub pair_at : ℕ → Bool → List ℕ
pair_at e true = e ∷ []
pair_at e false = []

unfoldable pub pairs_below : List Bool → ℕ → List ℕ
pairs_below flags e = raised_from 0 (take e flags)

-- ---- from any index on

one_more : (i e : ℕ) (flags : List Bool) → raised_from i (take (suc e) flags) ≡ raised_from i (take e flags) ++ pair_at (i + e) (get_or flags e false)
unfolding pair_at
one_more i zero [] = refl
one_more i (suc e) [] = refl
one_more i zero (true ∷ fs) = ap (λ (n : ℕ). n ∷ []) (sym (add-zero i))
one_more i zero (false ∷ fs) = refl
one_more i (suc e) (true ∷ fs) = rw (one_more (suc i) e fs, suc-add, ← add-suc)
one_more i (suc e) (false ∷ fs) = rw (one_more (suc i) e fs, suc-add, ← add-suc)

fewer : (i e : ℕ) (flags : List Bool) → length (raised_from i (take e flags)) ≤ length (raised_from i flags)
fewer i zero fs = omega arith
fewer i (suc e) [] = omega arith
fewer i (suc e) (true ∷ fs) = omega (arith, fewer (suc i) e fs)
fewer i (suc e) (false ∷ fs) = fewer (suc i) e fs

some_left : (i e : ℕ) (flags : List Bool) → length (raised_from i (take e flags)) < length (raised_from i flags) → e < length flags
some_left i e [] h = absurd (omega arith)
some_left i zero (f ∷ fs) h = omega arith
some_left i (suc e) (true ∷ fs) h = omega (arith, some_left (suc i) e fs (omega arith))
some_left i (suc e) (false ∷ fs) h = omega (arith, some_left (suc i) e fs h)

pub no_more : (i : ℕ) (flags : List Bool) → length (raised_from i flags) ≤ length flags
no_more i [] = omega arith
no_more i (true ∷ fs) = omega (arith, no_more (suc i) fs)
no_more i (false ∷ fs) = omega (arith, no_more (suc i) fs)

none_left : (ps : List ℕ) → length ps ≤ 0 → [] ≡ ps
none_left [] h = refl
none_left (p ∷ ps) h = absurd (omega arith)

as_many : (i e : ℕ) (flags : List Bool) → length (raised_from i flags) ≤ length (raised_from i (take e flags)) → raised_from i (take e flags) ≡ raised_from i flags
as_many i zero fs h = none_left (raised_from i fs) h
as_many i (suc e) [] h = refl
as_many i (suc e) (true ∷ fs) h = ap (λ (ps : List ℕ). i ∷ ps) (as_many (suc i) e fs (omega arith))
as_many i (suc e) (false ∷ fs) h = as_many (suc i) e fs h

length_pair : (e : ℕ) (b : Bool) → length (pair_at e b) ≡ bit b
unfolding pair_at
length_pair e true = refl
length_pair e false = refl

-- a sum with a flag's bit is some where one of the two is
some_with : (n : ℕ) (b : Bool) → (ltb 0 n || b) ≡ ltb 0 (n + bit b)
some_with zero true = refl
some_with zero false = refl
some_with (suc n) b = rw (lt-ltb 0 (suc n) (omega arith), lt-ltb 0 (suc n + bit b) (omega arith))

not_some : (n : ℕ) → not (ltb 0 n) ≡ true → 0 ≡ n
not_some n h = omega (arith, ltb-false 0 n (not-true _ h))

-- ---- from the start

module _ (flags : List Bool) where
  pub below_none : pairs_below flags 0 ≡ []
  unfolding pairs_below
  below_none = refl

  pub below_next : (e : ℕ) → pairs_below flags (e + 1) ≡ pairs_below flags e ++ pair_at e (get_or flags e false)
  unfolding pairs_below
  below_next e = rw (add-one e, one_more 0 e flags, zero-add)

  pub below_fewer : (e : ℕ) → length (pairs_below flags e) ≤ length (raised_from 0 flags)
  unfolding pairs_below
  below_fewer e = fewer 0 e flags

  -- how many
  pub count_none : 0 ≡ length (pairs_below flags 0)
  count_none = rw below_none

  pub count_next : (e n b : ℕ) → n ≡ length (pairs_below flags e) → b ≡ bit (get_or flags e false) → n + b ≡ length (pairs_below flags (e + 1))
  count_next e n b p q =
      rw (below_next e, length-append (pairs_below flags e)) (ap₂ (λ (x y : ℕ). x + y) p (q ∙ sym (length_pair e (get_or flags e false))))

  pub count_end : (e n : ℕ) → n ≡ length (pairs_below flags e) → length flags ≤ e → n ≡ length (raised_from 0 flags)
  unfolding pairs_below
  count_end e n p g = p ∙ rw (take_all e flags g)

  -- whether any
  pub any_none : false ≡ ltb 0 (length (pairs_below flags 0))
  any_none = rw below_none

  pub any_next : (e : ℕ) (r b : Bool) → r ≡ ltb 0 (length (pairs_below flags e)) → b ≡ get_or flags e false → (r || b) ≡ ltb 0 (length (pairs_below flags (e + 1)))
  any_next e r b p q =
      rw (p, q) (some_with (length (pairs_below flags e)) (get_or flags e false) ∙ ap (ltb 0) (count_next e _ _ refl refl))

  pub any_end : (e : ℕ) (r : Bool) → r ≡ ltb 0 (length (pairs_below flags e)) → length flags ≤ e → r ≡ ltb 0 (length (raised_from 0 flags))
  any_end e r p g = p ∙ ap (ltb 0) (count_end e _ refl g)

  pub none_raised : {r : Bool} → r ≡ ltb 0 (length (raised_from 0 flags)) → not r ≡ true → 0 ≡ length (raised_from 0 flags)
  none_raised p h = not_some (length (raised_from 0 flags)) (rw p at h)

  -- while fewer than all are met, there is a flag at e
  module _ {met n : ℕ} (fewer-met : met < n) (counted : n ≡ length (raised_from 0 flags)) (e : ℕ) (are-met : met ≡ length (pairs_below flags e)) where
    pub more_left : e < length flags
    unfolding pairs_below
    more_left = some_left 0 e flags (omega arith)

    pub more_next : e + 1 ≤ length flags
    more_next = omega (arith, more_left)

    pub more_below : (most : ℕ) → length flags ≤ most → e < most
    more_below most l = omega (arith, more_left)

    pub more_less : length flags - (e + 1) < length flags - e
    more_less = omega (arith, more_left)

  -- where as many are met, they are all
  pub all_met : {met n : ℕ} → n ≤ met → n ≡ length (raised_from 0 flags) → (e : ℕ) → met ≡ length (pairs_below flags e) → pairs_below flags e ≡ raised_from 0 flags
  unfolding pairs_below
  all_met g counted e are-met = as_many 0 e flags (omega arith)
