-- What splitting loses: nothing. And the records of some bytes are split off one by one.
use Prim.Native.Nat.{ℕ, zero, suc, ◌≤◌, ◌<◌}
use mathlib.Core.Path.{◌≡◌, refl, ap, ◌∙◌}
use mathlib.Core.List.{List, [], ◌∷◌, ◌++◌, append_assoc}
use native.Mathlib.Omega.{arith}
use borrow.Author.Tests.{leb-true, le-leb, lt-leb}
use lib.Dec.{leb}
use lib.ListN.{length, take, drop, length-append, take-append-drop}
use lib.Seq.{length-take-le, take_at, drop_at}
use Rattle.laws.specs.Choice.{pick, by_test}
use Rattle.records.specs.Records.{Record, Split, before, bytes, joined, split_from, split, Fits, AllFit}

module _ (behind : ℕ → ℕ) where
  from_drop : (n : ℕ) (bs : List ℕ) → split_from behind n bs ≡ split behind (drop n bs)
  unfolding split_from
  from_drop zero [] = refl
  from_drop (suc n) [] = refl
  from_drop zero (k ∷ bs) = refl
  from_drop (suc n) (k ∷ bs) = from_drop n bs

  -- one record, and the rest
  split_one : (k : ℕ) (bs : List ℕ) → behind k ≤ length bs
      → split behind (k ∷ bs) ≡ before (record { kind = k; body = take (behind k) bs }) (split behind (drop (behind k) bs))
  unfolding split_from pick
  split_one k bs h = rw (le-leb (behind k) (length bs) h) (ap (before _) (from_drop (behind k) bs))

  pub split_record : (r : Record) (rest : List ℕ) → Fits behind r → split behind (bytes r ++ rest) ≡ before r (split behind rest)
  split_record r rest fits =
      split_one r.kind (r.body ++ rest) (omega (arith, length-append r.body rest, fits))
      ∙ rw (take_at r.body rest (behind r.kind) fits, drop_at r.body rest (behind r.kind) fits)

  pub split_cut : (k : ℕ) (bs : List ℕ) → length bs < behind k → split behind (k ∷ bs) ≡ record { whole = []; left = k ∷ bs }
  unfolding split_from pick
  split_cut k bs h = rw (lt-leb (behind k) (length bs) h)

  pub split_none : split behind [] ≡ record { whole = []; left = [] }
  unfolding split_from
  split_none = refl

  -- nothing is lost
  joined_from : (n : ℕ) (bs : List ℕ) → joined (split_from behind n bs).whole ++ (split_from behind n bs).left ≡ drop n bs
  unfolding split_from
  joined_from zero [] = refl
  joined_from (suc n) [] = refl
  joined_from (suc n) (k ∷ bs) = joined_from n bs
  joined_from zero (k ∷ bs) =
      by_test (λ (t : Split). joined t.whole ++ t.left ≡ k ∷ bs) (leb (behind k) (length bs))
      (λ h. let z = joined_from (behind k) bs in ap (λ (t : List ℕ). k ∷ t) (append_assoc (take (behind k) bs) _ _ ∙ rw z (take-append-drop (behind k) bs)))
      (λ h. refl)

  pub joined_split : (bs : List ℕ) → joined (split behind bs).whole ++ (split behind bs).left ≡ bs
  joined_split bs = joined_from 0 bs

  fits_from : (n : ℕ) (bs : List ℕ) → AllFit behind (split_from behind n bs).whole
  unfolding split_from
  fits_from n [] = tt
  fits_from (suc n) (k ∷ bs) = fits_from n bs
  fits_from zero (k ∷ bs) =
      by_test (λ (t : Split). AllFit behind t.whole) (leb (behind k) (length bs))
      (λ h. (length-take-le (behind k) bs (leb-true _ _ h), fits_from (behind k) bs))
      (λ h. tt)

  pub split_fits : (bs : List ℕ) → AllFit behind (split behind bs).whole
  split_fits bs = fits_from 0 bs
