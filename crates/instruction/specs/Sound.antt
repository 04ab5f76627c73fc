-- What each row of the table of word kinds has, and so each word made from one.
use Rattle.std.specs.Prelude.{ℕ, ◌+◌, ◌*◌, ◌^◌, ◌<◌, ◌≤◌}
use Rattle.rules.specs.declared.instruction.WordKind.{WordKind}

-- the bits of a kind stand one above the other, within 32
pub record Sound (kind : WordKind) : Type 0 where
  pub lows : kind.lows < 32
  pub codes : kind.codes < 32
  pub fixed : kind.code * 2 ^ 3 + kind.low < 2 ^ kind.b.at
  pub meets : kind.b.at + kind.b.width ≤ kind.a.at
  pub ends : kind.a.at + kind.a.width ≤ 32
  pub a_at : kind.a.at < 32
  pub a_width : kind.a.width < 32

-- so do those of a word with a in A and b in B
pub record Fits (kind : WordKind) (a b : ℕ) : Type 0 where
  pub a_at : kind.a.at < 32
  pub b_at : kind.b.at < 32
  pub whole : a * 2 ^ kind.a.at + (b * 2 ^ kind.b.at + (kind.code * 2 ^ 3 + kind.low)) < 2 ^ 32
