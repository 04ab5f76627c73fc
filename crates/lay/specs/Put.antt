-- One edge more on a board b, given by its word w.
use Rattle.std.specs.Prelude.{ℕ, ◌+◌, ◌*◌, Bool, not, List, eqb, ltb, get_or, set}
use Rattle.laws.specs.Choice.{◌and◌}
use Rattle.places.specs.Ends.{left, right}

module _ (b : List ℕ) where
  -- how many places of v are taken
  abbrev pub taken : ℕ → ℕ
  taken v = get_or b (v + 272) 0

  -- it is no loop, and finds a place at each end
  unfoldable pub has_room : ℕ → Bool
  has_room w = not (eqb (left w) (right w)) and ltb (taken (left w)) 16 and ltb (taken (right w)) 16

  -- the next place of each end takes the edge e with the other end
  unfoldable pub put_on : ℕ → ℕ → List ℕ
  put_on e w =
      set (set (set (set b (left w * 16 + taken (left w) + 3_600) (e + right w * 1_024)) (right w * 16 + taken (right w) + 3_600) (e + left w * 1_024))
      (left w + 272) (taken (left w) + 1)) (right w + 272) (taken (right w) + 1)
