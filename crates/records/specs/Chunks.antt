-- A replay over any records: how many bytes stand behind a kind byte, and what a whole record does to a state, are all that a version of sessions says.
use Rattle.std.specs.Prelude.{ℕ, ◌+◌, ◌-◌, ◌≡◌, Bool, true, false, List, [], ◌∷◌, ◌++◌, eqb, leb, length, drop}
use Rattle.laws.specs.Choice.{pick}
use Rattle.rules.specs.Listing.{line, refusal_text}
use Rattle.rules.specs.declared.refusal.Refusal.TheVariants.{SessionRecord}
use Rattle.records.specs.Records.{Record, bytes, split}
use Rattle.records.specs.declared.Stop.{Stop}
use Rattle.records.specs.declared.Stop.TheVariants.{WantsBytes, WantsRoom, Ended}

-- a record's line, the state that it leaves, and whether the replay ends there
pub record Acted (S : Type 0) : Type 0 where
  pub text : List ℕ
  pub state : S
  pub ended : Bool

-- the lines of a session, and the state that it leaves
pub record Told (S : Type 0) : Type 0 where
  pub text : List ℕ
  pub state : S

-- the lines, the state that is left, how many bytes were used, and why no more of them
pub record Chunk (S : Type 0) : Type 0 where
  pub text : List ℕ
  pub state : S
  pub used : ℕ
  pub stop : Stop

-- "18: session record .. of another kind; replay ends"
abbrev pub is_ended : Stop → Bool
is_ended WantsBytes = false
is_ended WantsRoom = false
is_ended Ended = true

-- "18: session record cut short": what the end of input adds, where so many bytes are left
unfoldable pub end_text : ℕ → List ℕ
end_text left = pick (eqb left 0) [] (line (refusal_text SessionRecord))

module _ {S : Type 0} where
  abbrev pub silent : S → Told S
  silent s = record { text = []; state = s }

  abbrev pub after : List ℕ → Told S → Told S
  after text t = record { text = text ++ t.text; state = t.state }

  abbrev pub stopped : Stop → S → Chunk S
  stopped why s = record { text = []; state = s; used = 0; stop = why }

  -- a record with its line, and a chunk of the bytes behind it
  abbrev pub followed : Record → List ℕ → Chunk S → Chunk S
  followed r text c = record { text = text ++ c.text; state = c.state; used = length (bytes r) + c.used; stop = c.stop }

  module _ (act : S → Record → Acted S) where
    unfoldable pub tells : S → List Record → ℕ → Told S
    tells s [] left = record { text = end_text left; state = s }
    tells s (r ∷ rs) left = let one = act s r in after one.text (pick one.ended (silent one.state) (tells one.state rs left))

    -- as many of the records as find room for their lines, of which none is longer than `longest`; then it waits for the rest of one
    unfoldable pub runs : ℕ → S → ℕ → List Record → Chunk S
    runs longest s room [] = stopped WantsBytes s
    runs longest s room (r ∷ rs) =
        let one = act s r in
        pick (leb longest room)
        (followed r one.text (pick one.ended (stopped Ended one.state) (runs longest one.state (room - length one.text) rs)))
        (stopped WantsRoom s)

    module _ (behind : ℕ → ℕ) where
      unfoldable pub session : S → List ℕ → Told S
      session s bs = let t = split behind bs in tells s t.whole (length t.left)

      unfoldable pub chunk : ℕ → S → ℕ → List ℕ → Chunk S
      chunk longest s room bs = runs longest s room (split behind bs).whole

      -- All that a program may do: `held` was read and is not used yet, the pieces are still to be read, the text is what is written from here on
      pub data Replay (longest : ℕ) : S → List ℕ → List (List ℕ) → List ℕ → Type 0 where
        -- a piece is read, and held behind what was left
        reads : {s : S} {held piece : List ℕ} {pieces : List (List ℕ)} {text : List ℕ} → Replay longest s (held ++ piece) pieces text
            → Replay longest s held (piece ∷ pieces) text
        -- a chunk is run, with any room, and its lines are written
        goes : {s : S} {held : List ℕ} {pieces : List (List ℕ)} {text : List ℕ} (room : ℕ) (c : Chunk S) → c ≡ chunk longest s room held → is_ended c.stop ≡ false
            → Replay longest c.state (drop c.used held) pieces text → Replay longest s held pieces (c.text ++ text)
        -- a chunk ends the replay, whatever is still to be read
        ends : {s : S} {held : List ℕ} {pieces : List (List ℕ)} (room : ℕ) (c : Chunk S) → c ≡ chunk longest s room held → is_ended c.stop ≡ true
            → Replay longest s held pieces c.text
        -- the input ends, with no whole record held
        closes : {s : S} {held : List ℕ} → (split behind held).whole ≡ [] → Replay longest s held [] (end_text (length held))
