-- A line that is being written.
use Rattle.std.specs.Prelude.{ℕ, ◌≡◌, ◌+◌, ◌≤◌, List, length}
use Rattle.laws.specs.Placed.{Wrote}
use Rattle.listing.specs.declared.line.Line.{Line}

abbrev pub HasRoom : ℕ → Line → Type 0
HasRoom most line = line.at + most ≤ length line.out.now

-- a writer's work: the text stands behind what the line had, in the same buffer, and took no more than `most` bytes
pub record Puts (most : ℕ) (text : List ℕ) (before after : Line) : Type 0 where
  pub same_buffer : after.out.ghost_name ≡ before.out.ghost_name
  pub same_length : length after.out.now ≡ length before.out.now
  pub upper_bound : after.at ≤ before.at + most
  pub wrote : Wrote text before.at before.out.now after.at after.out.now
