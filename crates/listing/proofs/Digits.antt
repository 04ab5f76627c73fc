-- How many digits a number has, and its digits from the last to the first.
use Rattle.std.specs.Prelude.{Option, Some, None, IfSome, IfNone, unwrap_or}
use Rattle.std.proofs.Common.{ℕ, zero, suc, ◌+◌, ◌*◌, ◌-◌, ◌/◌, ◌%◌, ◌^◌, ◌≤◌, ◌<◌, ◌≡◌, List, [], ◌∷◌, ◌++◌, ltb, length, drop, set, refl, sym, ap, ◌∙◌, arith, add-one, ltb-true, ltb-false, length-append, append_assoc, append-nil}
use Rattle.std.proofs.lemmas.List.{drop-set, drop_all}
use Rattle.std.proofs.Math.Nat.{pow-succ', one-le-pow}
use Rattle.laws.specs.Choice.{pick, by_test}
use Rattle.rules.specs.Listing.{digits, decimal}

-- the last k digits of n
unfoldable pub last_digits : ℕ → ℕ → List ℕ
last_digits zero n = []
last_digits (suc k) n = last_digits k (n / 10) ++ ((48 + n % 10) ∷ [])

digits_last : (f n : ℕ) → digits f n ≡ last_digits (length (digits f n)) n
unfolding digits last_digits
digits_last zero n = refl
digits_last (suc f) n =
    by_test (λ (l : List ℕ). l ≡ last_digits (length l) n) (ltb n 10)
    (λ t. let e : n ≡ n % 10 = omega (arith, ltb-true n 10 t) in ap (λ (d : ℕ). (48 + d) ∷ []) e)
    (λ t. rw (length-append, add-one) (ap (λ (l : List ℕ). l ++ ((48 + n % 10) ∷ [])) (digits_last f (n / 10))))

-- a number below 10 ^ k has at most k digits
at_most : (f k n : ℕ) → n < 10 ^ suc k → length (digits f n) ≤ suc k
unfolding digits
at_most zero k n h = omega arith
at_most (suc f) zero n h = by_test (λ (l : List ℕ). length l ≤ 1) (ltb n 10) (λ t. omega arith) (λ t. absurd (omega (arith, ltb-false n 10 t)))
at_most (suc f) (suc k) n h =
    by_test (λ (l : List ℕ). length l ≤ suc (suc k)) (ltb n 10)
    (λ t. omega arith)
    (λ t. rw length-append (let i = at_most f k (n / 10) (omega (arith, pow-succ' 10 (suc k))) in omega arith))

pub decimal_most : (n : ℕ) → n < 2 ^ 32 → length (decimal n) ≤ 10
unfolding decimal
decimal_most n h = at_most 10 9 n (omega arith)

-- "V 1..256", "E 0..1,024": an edge's number has at most four digits
pub edge_most : (e : ℕ) → e < 1_024 → length (decimal e) ≤ 4
unfolding decimal
edge_most e h = at_most 10 3 e (omega arith)

-- every number has a digit, and one from 10 ^ k on has more than k
some_digit : (f n : ℕ) → 0 < length (digits (suc f) n)
unfolding digits
some_digit f n = by_test (λ (l : List ℕ). 0 < length l) (ltb n 10) (λ t. omega arith) (λ t. rw length-append (omega arith))

more_than : (f k n : ℕ) → n < 10 ^ f → 10 ^ k ≤ n → k < length (digits f n)
unfolding digits
more_than zero k n h g = absurd (omega (arith, one-le-pow k 10 (omega arith)))
more_than (suc f) zero n h g = some_digit f n
more_than (suc f) (suc k) n h g =
    by_test (λ (l : List ℕ). suc k < length l) (ltb n 10)
    (λ t. absurd (omega (arith, ltb-true n 10 t, pow-succ' 10 k, one-le-pow k 10 (omega arith))))
    (λ t. rw length-append (let i = more_than f k (n / 10) (omega (arith, pow-succ' 10 f)) (omega (arith, pow-succ' 10 k)) in omega arith))

one_digit : 1 ≡ length (decimal 0)
unfolding decimal digits pick
one_digit = refl

as_wide : (n : ℕ) → n < 2 ^ 32 → (k : ℕ) → 10 ^ k ≤ n → n < 10 * 10 ^ k → k + 1 ≡ length (decimal n)
unfolding decimal
as_wide n h k least most = omega (arith, more_than 10 k n (omega arith) least, at_most 10 k n (omega (arith, pow-succ' 10 k)))

-- the logarithm rounded down, and one more: 0 has one digit too
pub width_is : (n : ℕ) → n < 2 ^ 32 → (log : Option ℕ) → IfNone log (n ≡ 0) → IfSome log (λ k. 10 ^ k ≤ n) → IfSome log (λ k. n < 10 * 10 ^ k)
    → unwrap_or log 0 + 1 ≡ length (decimal n)
width_is n h None none least most = rw none one_digit
width_is n h (Some k) none least most = as_wide n h k least most

-- ---- the digits that are left to put, and behind them those that are put

pub spell_none : (n : ℕ) (out : List ℕ) → length out ≡ length (decimal n) → last_digits (length out) n ++ drop (length out) out ≡ decimal n
unfolding decimal
spell_none n out e = rw (drop_all (length out) out (omega arith), append-nil, e) (sym (digits_last 10 n))

pub spell_step : (n i rest : ℕ) (out : List ℕ) → last_digits i rest ++ drop i out ≡ decimal n → 0 < i → i ≤ length out
    → last_digits (i - 1) (rest / 10) ++ drop (i - 1) (set out (i - 1) (48 + rest % 10)) ≡ decimal n
unfolding last_digits
spell_step n zero rest out p h l = absurd (omega arith)
spell_step n (suc i) rest out p h l =
    let j : suc i - 1 ≡ i = omega arith in
    let k : i < length out = omega arith in
    rw (j, drop-set out i (48 + rest % 10) k, add-one i) (sym (append_assoc (last_digits i (rest / 10)) _ _) ∙ p)

pub spell_end : (n i rest : ℕ) (out : List ℕ) → last_digits i rest ++ drop i out ≡ decimal n → i ≤ 0 → out ≡ decimal n
unfolding last_digits
spell_end n zero rest out p h = p
spell_end n (suc i) rest out p h = absurd (omega arith)
