-- Session records in bytes, whatever their lengths: a kind byte, and behind it as many bytes as the kind says.
use Rattle.std.specs.Prelude.{ℕ, zero, suc, ◌+◌, ◌≡◌, List, [], ◌∷◌, ◌++◌, leb, length, take, get_or}
use Rattle.laws.specs.Choice.{pick}
use Rattle.rules.specs.Listing.{value_of}

pub record Record : Type 0 where
  pub kind : ℕ
  pub body : List ℕ

-- the whole records of some bytes, and what is left behind them: nothing, or a record that is cut short
pub record Split : Type 0 where
  pub whole : List Record
  pub left : List ℕ

abbrev pub before : Record → Split → Split
before r t = record { whole = r ∷ t.whole; left = t.left }

abbrev pub bytes : Record → List ℕ
bytes r = r.kind ∷ r.body

abbrev pub joined : List Record → List ℕ
joined [] = []
joined (r ∷ rs) = bytes r ++ joined rs

-- how many bytes stand behind a kind byte
module _ (behind : ℕ → ℕ) where
  -- the records behind the first n bytes
  unfoldable pub split_from : ℕ → List ℕ → Split
  split_from n [] = record { whole = []; left = [] }
  split_from (suc n) (k ∷ bs) = split_from n bs
  split_from zero (k ∷ bs) =
      pick (leb (behind k) (length bs)) (before (record { kind = k; body = take (behind k) bs }) (split_from (behind k) bs)) (record { whole = []; left = k ∷ bs })

  abbrev pub split : List ℕ → Split
  split bs = split_from 0 bs

  -- a record that is whole
  abbrev pub Fits : Record → Type 0
  Fits r = length r.body ≡ behind r.kind

  abbrev pub AllFit : List Record → Type 0
  AllFit [] = Unit {0}
  AllFit (r ∷ rs) = Fits r × AllFit rs

-- the u32 at i
abbrev pub value_at : List ℕ → ℕ → ℕ
value_at bs i = value_of (get_or bs i 0) (get_or bs (i + 1) 0) (get_or bs (i + 2) 0) (get_or bs (i + 3) 0)
