-- What holds of each row of the table of word kinds, by looking at each.
use Rattle.std.proofs.Common.{ℕ, zero, suc, ◌≤◌, ◌<◌, ⊎_elim, eq-or-lt_of_le, le_of_suc-le-suc, not-suc-le-zero, arith}
use Rattle.rules.specs.Words.{kind_at}
use Rattle.instruction.specs.Sound.{Sound}

-- P 0, P 1, .. P (n - 1)
abbrev pub Each : ℕ → (ℕ → Type 0) → Type 0
Each zero P = Unit
Each (suc n) P = Each n P × P n

pub each_at : (P : ℕ → Type 0) (n : ℕ) → Each n P → (k : ℕ) → k < n → P k
each_at P zero all k h = absurd (not-suc-le-zero h)
each_at P (suc n) all k h =
    ⊎_elim (λ e. rw e all.1) (λ l. each_at P n all.0 k l) (eq-or-lt_of_le (le_of_suc-le-suc h))

pub sound : (k : ℕ) → k < 7 → Sound (kind_at k)
sound k h = each_at (λ (j : ℕ). Sound (kind_at j)) 7 (omega arith) k h

-- field B is an index in every kind, and field A in every kind but the last, Grow
pub index_b : (k : ℕ) → k < 7 → (kind_at k).b.width ≤ 16
index_b k h = each_at (λ (j : ℕ). (kind_at j).b.width ≤ 16) 7 (omega arith) k h

pub index_a : (k : ℕ) → k < 6 → (kind_at k).a.width ≤ 16
index_a k h = each_at (λ (j : ℕ). (kind_at j).a.width ≤ 16) 6 (omega arith) k h
