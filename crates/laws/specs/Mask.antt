-- A mask with a bit for each place: bit k of `mask_of n f` is set where f k holds, for k below n. Its ones are the places counted.
use Rattle.std.specs.Prelude.{ℕ, zero, suc, ◌+◌, ◌*◌, ◌^◌, ◌≤◌, ◌<◌, ◌≡◌, Bool, true, false}
use Rattle.std.proofs.Math.Path.{refl}
use Rattle.std.proofs.Common.{ap₂, ◌∙◌, pow-suc, add_comm, add-one, arith}
use Rattle.std.specs.Int.Count.{ones}
use Rattle.std.proofs.lemmas.Nat.{ones_cat}
use Rattle.laws.specs.Fold.{up_to, bit, count_to}

unfoldable pub mask_of : ℕ → (ℕ → Bool) → ℕ
mask_of zero f = 0
mask_of (suc k) f = bit (f k) * 2 ^ k + mask_of k f

bit_le : (b : Bool) (n : ℕ) → bit b * n ≤ n
bit_le true n = omega arith
bit_le false n = omega arith

ones_bit : (b : Bool) → ones (bit b) ≡ bit b
unfolding ones
ones_bit true = refl
ones_bit false = refl

pub mask_lt : (k : ℕ) (f : ℕ → Bool) → mask_of k f < 2 ^ k
unfolding mask_of
mask_lt zero f = omega arith
mask_lt (suc k) f = omega (arith, mask_lt k f, bit_le (f k) (2 ^ k), pow-suc 2 k)

-- the number of ones is the number of places
pub ones_mask : (k : ℕ) (f : ℕ → Bool) → ones (mask_of k f) ≡ count_to f k
unfolding mask_of up_to ones
ones_mask zero f = refl
ones_mask (suc k) f =
    ones_cat k (bit (f k)) (mask_of k f) (mask_lt k f) ∙ ap₂ (λ (x y : ℕ). x + y) (ones_bit (f k)) (ones_mask k f) ∙ add_comm (bit (f k)) (count_to f k)

module _ (f : ℕ → Bool) where
  pub mask_none : 0 ≡ mask_of 0 f
  unfolding mask_of
  mask_none = refl

  -- m has the bits below k, b is f k, and v has b at k besides
  pub mask_step : (k v m : ℕ) (b : Bool) → v ≡ bit b * 2 ^ k + m → m ≡ mask_of k f → b ≡ f k → v ≡ mask_of (k + 1) f
  unfolding mask_of
  mask_step k v m b e p q = rw (add-one k) (e ∙ rw (p, q))

  pub mask_below : (k m : ℕ) → m ≡ mask_of k f → m < 2 ^ k
  mask_below k m p = rw p (mask_lt k f)

  pub mask_end : (k n d m : ℕ) → m ≡ mask_of k f → d ≡ n → k ≤ d → d ≤ k → m ≡ mask_of n f
  mask_end k n d m p e l g = let z : k ≡ n = omega arith in rw (← z) p

-- for `search (needs, masks)` at every need of a loop that sets bits
pub ruleset masks = (mask_none, mask_step, mask_below, mask_end)
