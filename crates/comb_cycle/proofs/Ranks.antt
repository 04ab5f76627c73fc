-- The lesser of two ranks is the stronger report's: a rank at most another is of a kind at least as strong, and within a kind the ranks run as
-- the edge indices or the lengths do.
use Rattle.std.proofs.Common.{ℕ, ◌+◌, ◌-◌, ◌≤◌, ◌<◌, min, ◌≡◌, refl, ap, ◌∙◌, arith, ltb, ltb-true, ltb-false, lt-ltb, le-ltb, Err, Ok}
use native.Mathlib.Omega.{min_cases}
use Rattle.laws.specs.Choice.{pick, by_test}
use Rattle.rules.specs.declared.finding.Length.{Length}
use Rattle.rules.specs.declared.finding.Length.TheVariants.{NoLimit, Ahead, Behind}
use Rattle.rules.specs.declared.finding.Side.{Side}
use Rattle.rules.specs.declared.finding.Finding.{Finding}
use Rattle.rules.specs.declared.finding.Finding.TheVariants.{GrowLength, Conflict}
use Rattle.rules.specs.Types.{Response, odd_remaining}
use Rattle.comb_cycle.specs.Rank.{report_in}
use Rattle.comb_cycle.specs.Strongest.{silent, stronger, report_of}
use Rattle.comb_cycle.specs.declared.report.Report.{Report}
use Rattle.comb_cycle.specs.declared.report.Report.TheVariants.{Odd, Length as LengthOf}
use Rattle.comb_cycle.proofs.Strengths.{conflict_at, strengths}

abbrev ahead : ℕ → Report
ahead n = LengthOf (Ahead n)

abbrev behind : ℕ → Report
behind n = LengthOf (Behind n)

-- ---- the law

-- a report by its rank's kind
module _ (P : Report → Type 0) (r : ℕ) where
  by_rank : (r < 4_294_901_760 → P Odd)
      → (4_294_901_760 ≤ r → r < 4_294_967_296 → P (conflict_at (r - 4_294_901_760)))
      → (4_294_967_296 ≤ r → r < 8_589_934_592 → P (behind (8_589_934_591 - r)))
      → (8_589_934_592 ≤ r → r < 12_884_901_888 → P (ahead (r - 8_589_934_592)))
      → (12_884_901_888 ≤ r → P silent) → P (report_in r)
  unfolding report_in
  by_rank o c b a s =
      by_test P (ltb r 4_294_901_760) (λ t. o (ltb-true _ _ t))
      (λ t. by_test P (ltb r 4_294_967_296) (λ u. c (ltb-false _ _ t) (ltb-true _ _ u))
      (λ t. by_test P (ltb r 8_589_934_592) (λ u. b (ltb-false _ _ t) (ltb-true _ _ u))
      (λ t. by_test P (ltb r 12_884_901_888) (λ u. a (ltb-false _ _ t) (ltb-true _ _ u)) (λ t. s (ltb-false _ _ t)))))

abbrev Outdoes : Report → Report → Type 0
Outdoes x y = x ≡ stronger x y

outdoes : (a b : ℕ) → a ≤ b → Outdoes (report_in a) (report_in b)
outdoes a b l =
    by_rank (λ x. Outdoes x (report_in b)) a
    (λ i. refl)
    (λ i j. by_rank (Outdoes (conflict_at _)) b
    (λ k. absurd (omega arith)) (λ k m. ap conflict_at (omega arith)) (λ k m. refl) (λ k m. refl) (λ k. refl))
    (λ i j. by_rank (Outdoes (behind _)) b
    (λ k. absurd (omega arith)) (λ k m. absurd (omega arith)) (λ k m. ap behind (omega arith)) (λ k m. refl) (λ k. refl))
    (λ i j. by_rank (Outdoes (ahead _)) b
    (λ k. absurd (omega arith)) (λ k m. absurd (omega arith)) (λ k m. absurd (omega arith)) (λ k m. ap ahead (omega arith)) (λ k. refl))
    (λ i. by_rank (Outdoes silent) b
    (λ k. absurd (omega arith)) (λ k m. absurd (omega arith)) (λ k m. absurd (omega arith)) (λ k m. absurd (omega arith)) (λ k. refl))

pub lesser_stronger : (a b : ℕ) → report_in (min a b) ≡ stronger (report_in a) (report_in b)
lesser_stronger a b =
    min_cases a b _ (λ l z. rw z (outdoes a b l)) (λ l z. rw z (outdoes b a l ∙ strengths.comm (report_in b) (report_in a)))

-- ---- the ranks that the code gives

pub odd_rank : {s : Response} → s ≡ Err odd_remaining → (e : ℕ) → report_in 0 ≡ report_of e s
unfolding report_in pick
odd_rank p e = rw p

pub conflict_rank : {s : Response} {f : Finding} {a b : Side} → s ≡ Ok f → f ≡ Conflict a b → (e : ℕ) → e < 65_536
    → report_in (4_294_901_760 + e) ≡ report_of e s
unfolding report_in pick
conflict_rank p q e l =
    let r = 4_294_901_760 + e in
    rw (p, q, le-ltb r 4_294_901_760 (omega arith), lt-ltb r 4_294_967_296 (omega arith)) (ap conflict_at (omega arith))

pub length_rank : {s : Response} {f : Finding} {l : Length} → s ≡ Ok f → f ≡ GrowLength l → (r e : ℕ) → report_in r ≡ LengthOf l
    → report_in r ≡ report_of e s
length_rank p q r e h = rw (p, q) h

pub behind_rank : {l : Length} (n : ℕ) → l ≡ Behind n → n < 4_294_967_296 → report_in (8_589_934_591 - n) ≡ LengthOf l
unfolding report_in pick
behind_rank n p i =
    let r = 8_589_934_591 - n in
    rw (p, le-ltb r 4_294_901_760 (omega arith), le-ltb r 4_294_967_296 (omega arith), lt-ltb r 8_589_934_592 (omega arith))
    (ap behind (omega arith))

pub ahead_rank : {l : Length} (n : ℕ) → l ≡ Ahead n → n < 4_294_967_296 → report_in (8_589_934_592 + n) ≡ LengthOf l
unfolding report_in pick
ahead_rank n p i =
    let r = 8_589_934_592 + n in
    rw (p, le-ltb r 4_294_901_760 (omega arith), le-ltb r 4_294_967_296 (omega arith), le-ltb r 8_589_934_592 (omega arith), lt-ltb r 12_884_901_888 (omega arith))
    (ap ahead (omega arith))

pub no_limit_rank : {l : Length} → l ≡ NoLimit → report_in 12_884_901_888 ≡ LengthOf l
unfolding report_in pick
no_limit_rank p = rw p

pub ruleset ranks = (odd_rank, conflict_rank, length_rank, behind_rank, ahead_rank, no_limit_rank)
