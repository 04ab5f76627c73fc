-- What the work on a chunk of session records answers, and the work at the end of the input.
use Rattle.std.specs.Prelude.{ℕ, Bool, List, leb, length, Option, Some, None}
use Rattle.laws.specs.Choice.{pick}
use Rattle.laws.specs.Placed.{placed}
use Rattle.rules.specs.declared.graph.Graph.{Graph}
use Rattle.rules.specs.declared.state.State.{State}
use Rattle.records.specs.Chunks
use Rattle.records.specs.Session.{behind, acted}
use Rattle.listing.specs.Lines.{longest_pairs}
use Rattle.session.specs.declared.Done.{Done}

-- as many of the records as are whole and find room for the longest line, which is a pair list
abbrev pub chunk : Graph → State → ℕ → List ℕ → Chunks.Chunk State
chunk g s room bs = Chunks.chunk (acted g) behind longest_pairs s room bs

-- all that a program may do with input that comes in pieces
abbrev pub Replay : Graph → State → List ℕ → List (List ℕ) → List ℕ → Type 0
Replay g s held pieces text = Chunks.Replay (acted g) behind longest_pairs s held pieces text

-- what is told of a chunk
abbrev pub done_of : Chunks.Chunk State → Done
done_of c = record { state = c.state; used = c.used; written = length c.text; stop = c.stop }

-- ---- the end of the input, where so many bytes are left

-- whether the last line finds room: its own length is enough
unfoldable pub last_fits : ℕ → List ℕ → Bool
last_fits left out = leb (length (Chunks.end_text left)) (length out)

unfoldable pub last_of : ℕ → List ℕ → Option ℕ
last_of left out = pick (last_fits left out) (Some (length (Chunks.end_text left))) None

unfoldable pub last_in : ℕ → List ℕ → List ℕ
last_in left out = pick (last_fits left out) (placed 0 (Chunks.end_text left) out) out
