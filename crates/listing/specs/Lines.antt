-- A line added to a buffer. Where the buffer lacks the room that the longest such line may take, nothing is written.
use Rattle.std.specs.Prelude.{ℕ, ◌+◌, ◌≤◌, ◌<◌, ◌≡◌, List, leb, length}
use Rattle.std.proofs.Common.{le-leb}
use Rattle.std.proofs.lemmas.Bool.{lt-leb}
use Rattle.laws.specs.Choice.{pick}
use Rattle.laws.specs.Placed.{placed}

-- `s c`, nine numbers of a space and ten digits at most, and the line's end
abbrev pub longest : ℕ
longest = 103

-- `p`, 1,024 numbers of a space and four digits at most, and the line's end
abbrev pub longest_pairs : ℕ
longest_pairs = 5_122

-- `r 18` and the line's end
abbrev pub record_line : ℕ
record_line = 5

module _ (most at : ℕ) (text out : List ℕ) where
  -- the position after the line
  unfoldable pub line_end : ℕ
  line_end = pick (leb (at + most) (length out)) (at + length text) at

  -- the buffer with the line in it
  unfoldable pub line_in : List ℕ
  line_in = pick (leb (at + most) (length out)) (placed at text out) out

  pub end_with_room : at + most ≤ length out → line_end ≡ at + length text
  unfolding line_end pick
  end_with_room h = rw (le-leb _ _ h)

  pub in_with_room : at + most ≤ length out → line_in ≡ placed at text out
  unfolding line_in pick
  in_with_room h = rw (le-leb _ _ h)

  pub end_without_room : length out < at + most → line_end ≡ at
  unfolding line_end pick
  end_without_room h = rw (lt-leb _ _ h)

  pub in_without_room : length out < at + most → line_in ≡ out
  unfolding line_in pick
  in_without_room h = rw (lt-leb _ _ h)
