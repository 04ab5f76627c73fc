-- The calls that session records carry, and the states that the public functions return, each by its contract.
use Rattle.std.specs.Prelude.{ℕ, ◌≡◌, List, [], ◌∷◌, ◌++◌, length, take}
use Rattle.std.proofs.Math.Option.{Option, none, some}
use Rattle.laws.specs.Choice.{pick}
use Rattle.rules.specs.State.{first_state, reset}
use Rattle.rules.specs.Instruct.{instruct, word_run}
use Rattle.rules.specs.Search.{search_on, search_to}
use Rattle.rules.specs.Run.{Call, execute, word, clear, seek, seek_on, run, replies}
use Rattle.rules.specs.Listing.{line, lines, refusal_text, Session}
use Rattle.rules.specs.declared.graph.Graph.{Graph}
use Rattle.rules.specs.declared.state.State.{State}
use Rattle.rules.specs.declared.state.Cycle.{Cycle}
use Rattle.rules.specs.declared.state.WordCycle.{WordCycle}
use Rattle.rules.specs.declared.state.Searched.{Searched}
use Rattle.rules.specs.declared.instruction.Instruction.{Instruction}
use Rattle.rules.specs.declared.refusal.Refusal.TheVariants.{SessionRecord}
use Rattle.records.specs.Records.{Record, split}
use Rattle.records.specs.Chunks.{Chunk, is_ended, end_text}
use Rattle.records.specs.Session.{behind, call_of}
use Rattle.session.specs.Chunk.{chunk, done_of}
use Rattle.session.specs.declared.Done.{Done}

abbrev pub before : Option Call → List Call → List Call
before none cs = []
before (some q) cs = q ∷ cs

-- up to a record of another kind
abbrev pub calls : List Record → List Call
calls [] = []
calls (r ∷ rs) = before (call_of r) (calls rs)

-- "five bytes each: kind and u32 value": those of the whole records
unfoldable pub calls_in : List ℕ → List Call
calls_in bs = calls (split behind bs).whole

-- the calls of the bytes that a chunk used
abbrev pub used : Chunk State → List ℕ → List Call
used c bs = calls_in (take c.used bs)

abbrev pub end_after : Option Call → List ℕ → List ℕ
end_after none text = line (refusal_text SessionRecord)
end_after (some q) text = text

abbrev pub end_behind : List Record → ℕ → List ℕ
end_behind [] left = end_text left
end_behind (r ∷ rs) left = end_after (call_of r) (end_behind rs left)

-- what stands behind the last call's line: "18: session record cut short or of another kind"
unfoldable pub end_of : List ℕ → List ℕ
end_of bs = end_behind (split behind bs).whole (length (split behind bs).left)

-- the chunk c is the calls cs on s: the state is theirs, the text their replies', and a line for 18 where it ended the replay
pub record Carries (g : Graph) (s : State) (cs : List Call) (c : Chunk State) : Type 0 where
  pub state : c.state ≡ run g s cs
  pub text : c.text ≡ lines (replies g s cs) ++ pick (is_ended c.stop) (line (refusal_text SessionRecord)) []

-- so is a whole session
pub record CarriesAll (g : Graph) (s : State) (bs : List ℕ) (t : Session) : Type 0 where
  pub state : t.state ≡ run g s (calls_in bs)
  pub text : t.text ≡ lines (replies g s (calls_in bs)) ++ end_of bs

-- A series of the public functions on one graph, each on the state that the one before it returned, in the words of their contracts: the state
-- that the last one returned, and the calls that they were.
pub data Returned (g : Graph) : List Call → State → Type 0 where
  -- comb::open, comb::first_state
  opened : {s : State} → s ≡ first_state g → Returned g [] s
  -- comb::reset
  cleared : {cs : List Call} {s t : State} → Returned g cs s → t ≡ reset g s → Returned g (cs ++ clear ∷ []) t
  -- comb::execute
  executed : {cs : List Call} {s : State} → Returned g cs s → (i : Instruction) (r : Cycle) → r ≡ instruct g s i
      → Returned g (cs ++ execute i ∷ []) r.state
  -- comb::execute_word
  carried : {cs : List Call} {s : State} → Returned g cs s → (w : ℕ) (r : WordCycle) → r ≡ word_run g s w
      → Returned g (cs ++ word w ∷ []) r.state
  -- comb::search_to
  sought : {cs : List Call} {s : State} → Returned g cs s → (m : ℕ) (r : Searched) → r ≡ search_to g s m
      → Returned g (cs ++ seek m ∷ []) r.state
  -- comb::search_on
  sought_on : {cs : List Call} {s : State} → Returned g cs s → (r : Searched) → r ≡ search_on g s → Returned g (cs ++ seek_on ∷ []) r.state
  -- session::run_chunk, on so much room
  ran : {cs : List Call} {s : State} → Returned g cs s → (room : ℕ) (bytes : List ℕ) (r : Done) → r ≡ done_of (chunk g s room bytes)
      → Returned g (cs ++ calls_in (take r.used bytes)) r.state
