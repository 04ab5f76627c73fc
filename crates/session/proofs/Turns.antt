-- The loop over a chunk's records, over variables: what was done so far and the chunk that is left make the whole.
use Rattle.std.specs.Prelude.{ℕ, zero, suc, ◌+◌, ◌-◌, ◌*◌, ◌/◌, ◌≤◌, ◌<◌, ◌≡◌, Bool, true, false, List, [], ◌∷◌, ◌++◌, leb, length, get_or, take, drop}
use Rattle.std.specs.Simd.{first_chunks}
use Rattle.std.proofs.Common.{refl, sym, ap, ◌∙◌, add-zero, zero-add, add_assoc, arith, le-leb, length-append, length-drop, drop-drop}
use Rattle.std.proofs.lemmas.Bool.{lt-leb}
use Rattle.laws.specs.Choice.{pick}
use Rattle.laws.specs.Placed.{placed, placed_none, placed_then, wrote_length}
use Rattle.rules.specs.Listing.{line, value_of}
use Rattle.rules.specs.declared.graph.Graph.{Graph}
use Rattle.rules.specs.declared.state.State.{State}
use Rattle.records.specs.Records.{Record, bytes}
use Rattle.records.specs.Chunks.{Acted, Chunk, stopped, followed}
use Rattle.records.specs.Session.{behind, call_of, acted}
use Rattle.records.specs.Answered.{answer, is_unknown}
use Rattle.records.specs.declared.Answered.{Answered}
use Rattle.records.specs.declared.Answered.TheVariants.{Word, Search, Pairs, Unknown}
use Rattle.records.specs.declared.Stop.{Stop}
use Rattle.records.specs.declared.Stop.TheVariants.{WantsBytes, WantsRoom, Ended}
use Rattle.records.proofs.Chunks.{chunk_none, chunk_cut, chunk_record}
use Rattle.listing.specs.Answers.{answer_text}
use Rattle.listing.specs.Lines.{longest_pairs, line_end, line_in}
use Rattle.session.specs.Chunk.{chunk, done_of}
use Rattle.session.specs.declared.Done.{Done}
use Rattle.session.proofs.Answers.{Ran, ran_record}
use Rattle.session.proofs.Flags.{acted_flags}

-- what is told of a chunk, and its lines in a buffer
pub record Outcome : Type 0 where
  pub done : Done
  pub bytes : List ℕ

-- after so many bytes used and written, the buffer out and the chunk c are left
unfoldable pub outcome : ℕ → ℕ → List ℕ → Chunk State → Outcome
outcome used written out c = record {
  done = record { state = c.state; used = used + c.used; written = written + length c.text; stop = c.stop };
  bytes = placed written c.text out;
}

-- ---- the next record

-- "five bytes each: kind and u32 value"
abbrev record_of : List ℕ → Record
record_of x = record { kind = get_or x 0 0; body = get_or x 1 0 ∷ get_or x 2 0 ∷ get_or x 3 0 ∷ get_or x 4 0 ∷ [] }

next_five : (bs : List ℕ) → 5 ≤ length bs → bs ≡ bytes (record_of (take 5 bs)) ++ drop 5 bs
next_five [] h = absurd (omega arith)
next_five (k ∷ []) h = absurd (omega arith)
next_five (k ∷ a ∷ []) h = absurd (omega arith)
next_five (k ∷ a ∷ b ∷ []) h = absurd (omega arith)
next_five (k ∷ a ∷ b ∷ c ∷ []) h = absurd (omega arith)
next_five (k ∷ a ∷ b ∷ c ∷ d ∷ rest) h = refl

chunk_at : (n k : ℕ) (bs : List ℕ) → k < n → get_or (first_chunks 5 n bs) k [] ≡ take 5 (drop (5 * k) bs)
chunk_at zero k bs h = absurd (omega arith)
chunk_at (suc n) zero bs h = refl
chunk_at (suc n) (suc k) bs h = chunk_at n k (drop 5 bs) (omega arith) ∙ ap (take 5) (drop-drop (5 * k) 5 bs ∙ ap (λ (i : ℕ). drop i bs) (omega arith))

-- the bytes are those of the record at k
pub record At (bs : List ℕ) (records : List (List ℕ)) (k used : ℕ) : Type 0 where
  pub five : used + 5 ≤ length bs
  pub is : get_or records k [] ≡ take 5 (drop used bs)

module _ (bs : List ℕ) (records : List (List ℕ)) (many : length records ≡ length bs / 5) (k used : ℕ) (place : used ≡ 5 * k) where
  pub at : records ≡ first_chunks 5 (length bs / 5) bs → k < length records → At bs records k used
  at front l = record { five = omega arith; is = rw (front, place) (chunk_at (length bs / 5) k bs (omega arith)) }

  pub few_left : length records ≤ k → length bs - used < 5
  few_left l = omega arith

module _ (g : Graph) (s : State) (room : ℕ) where
  -- too few bytes
  few_bytes : (xs : List ℕ) → length xs < 5 → chunk g s room xs ≡ stopped WantsBytes s
  few_bytes [] h = chunk_none (acted g) behind longest_pairs s room
  few_bytes (k ∷ xs) h = chunk_cut (acted g) behind longest_pairs s room k xs (omega arith)

  module _ (xs : List ℕ) (five : 5 ≤ length xs) where
    abbrev one : Acted State
    one = acted g s (record_of (take 5 xs))

    next_record : chunk g s room xs
        ≡ pick (leb longest_pairs room)
        (followed (record_of (take 5 xs)) one.text (pick one.ended (stopped Ended one.state) (chunk g one.state (room - length one.text) (drop 5 xs))))
        (stopped WantsRoom s)
    next_record = ap (chunk g s room) (next_five xs five) ∙ chunk_record (acted g) behind longest_pairs s room (record_of (take 5 xs)) (drop 5 xs) refl

    no_room : room < longest_pairs → chunk g s room xs ≡ stopped WantsRoom s
    unfolding pick
    no_room l = next_record ∙ rw (lt-leb longest_pairs room l)

    has_room : longest_pairs ≤ room → chunk g s room xs
        ≡ followed (record_of (take 5 xs)) one.text (pick one.ended (stopped Ended one.state) (chunk g one.state (room - length one.text) (drop 5 xs)))
    unfolding pick
    has_room l = next_record ∙ rw (le-leb longest_pairs room l)

-- a record of another kind

pub other_kind : (a : Answered) → a ≡ Unknown → true ≡ is_unknown a
other_kind a e = rw e

pub known_kind : (a : Answered) → (a ≡ Unknown → ⊥) → false ≡ is_unknown a
known_kind (Word w) n = refl
known_kind (Search w m) n = refl
known_kind Pairs n = refl
known_kind Unknown n = absurd (n refl)

-- ---- a turn: a record was run, and its line stands in the buffer

module _ (r : Record) (one : Acted State) (t : State) (e : Bool) (used written next : ℕ) (out after : List ℕ) (ran : Ran one t e written out next after) (h : length r.body ≡ 4) where
  goes_further : (c : Chunk State) → outcome used written out (followed r one.text c) ≡ outcome (used + 5) next after c
  unfolding outcome
  goes_further c =
      let n : used + (suc (length r.body) + c.used) ≡ used + 5 + c.used = omega arith in
      rw (
        n,
        ran.wrote.end,
        ran.wrote.bytes,
        placed_then written one.text c.text out (omega (arith, ran.wrote.end, ran.wrote.inside)),
        length-append,
        ← add_assoc written (length one.text) (length c.text),
      )

  same_room : length after - next ≡ length out - written - length one.text
  same_room = omega (arith, wrote_length ran.wrote, ran.wrote.end)

  turned : (g : Graph) (rest : List ℕ)
      → outcome used written out (followed r one.text (pick one.ended (stopped Ended one.state) (chunk g one.state (length out - written - length one.text) rest)))
      ≡ outcome (used + 5) next after (pick e (stopped Ended t) (chunk g t (length after - next) rest))
  turned g rest = rw (ran.state, ran.end, same_room) (goes_further (pick one.ended (stopped Ended one.state) (chunk g one.state (length out - written - length one.text) rest)))

-- ---- what the loop's turns ask

-- the bytes used, the buffer and the state s make, with the chunk c that is left, the chunk of all bytes bs
pub record Makes (g : Graph) (first : State) (bs before : List ℕ) (used written : ℕ) (out : List ℕ) (c : Chunk State) : Type 0 where
  pub within : used ≤ length bs
  pub inside : written ≤ length before
  pub whole : outcome used written out c ≡ outcome 0 0 before (chunk g first (length before) bs)

-- so they do with the chunk of the bytes that are left
pub record Under (g : Graph) (first : State) (bs before : List ℕ) (s : State) (used written : ℕ) (out : List ℕ) : Type 0 where
  pub flags : length s.stalled ≡ 1_024
  pub same : length out ≡ length before
  pub makes : Makes g first bs before used written out (chunk g s (length out - written) (drop used bs))

module _ {g : Graph} {first : State} {bs before : List ℕ} where
  -- the chunk that was left stops the loop
  module _ {used written : ℕ} {out : List ℕ} {why : Stop} {s : State} (m : Makes g first bs before used written out (stopped why s)) where
    pub told : record { state = s; used = used; written = written; stop = why } ≡ done_of (chunk g first (length before) bs)
    unfolding outcome
    told = simp (add-zero, zero-add) at (ap (λ (o : Outcome). o.done) m.whole)

    pub filled : out ≡ placed 0 (chunk g first (length before) bs).text before
    unfolding outcome
    filled = rw placed_none at (ap (λ (o : Outcome). o.bytes) m.whole)

  module _ {s : State} {used written : ℕ} {out : List ℕ} (u : Under g first bs before s used written out) where
    stops_by : (c : Chunk State) → chunk g s (length out - written) (drop used bs) ≡ c → Makes g first bs before used written out c
    stops_by c e = rw e at u.makes

    pub stops_short : (why : Stop) → why ≡ WantsBytes → length bs - used < 5 → Makes g first bs before used written out (stopped why s)
    stops_short why e l = rw e (stops_by _ (few_bytes g s (length out - written) (drop used bs) (rw length-drop l)))

    -- at the record x
    module _ (five : used + 5 ≤ length bs) where
      left : 5 ≤ length (drop used bs)
      left = rw length-drop (omega arith)

      pub stops_full : length out - written < longest_pairs → Makes g first bs before used written out (stopped WantsRoom s)
      stops_full l = stops_by _ (no_room g s (length out - written) (drop used bs) left l)

      module _ (x : List ℕ) (is : x ≡ take 5 (drop used bs)) (room : longest_pairs ≤ length out - written) (value : ℕ)
          (v : value ≡ value_of (get_or x 1 0) (get_or x 2 0) (get_or x 3 0) (get_or x 4 0)) (t : State) (a : Answered)
          (done : record { state = t; answered = a } ≡ answer g s (get_or x 0 0) value) (next : ℕ) (after : List ℕ)
          (end : next ≡ line_end longest_pairs written (line (answer_text t.stalled a)) out)
          (put : after ≡ line_in longest_pairs written (line (answer_text t.stalled a)) out) (most : next ≤ written + longest_pairs) (e : Bool) (ended : e ≡ is_unknown a) where
        ran : Ran (acted g s (record_of (take 5 (drop used bs)))) t e written out next after
        unfolding call_of
        ran = rw is at (rw v at (ran_record g s (omega (arith, u.flags)) (get_or x 0 0) value t a done e written next out after (omega arith) ended end put most))

        turn : Makes g first bs before (used + 5) next after (pick e (stopped Ended t) (chunk g t (length after - next) (drop (used + 5) bs)))
        turn = record {
          within = five;
          inside = omega (arith, ran.wrote.inside, u.same);
          whole =
              sym (ap (λ (xs : List ℕ). outcome (used + 5) next after (pick e (stopped Ended t) (chunk g t (length after - next) xs))) (drop-drop 5 used bs ∙ ap (λ (i : ℕ). drop i bs) (omega arith)))
              ∙ sym (turned (record_of (take 5 (drop used bs))) (acted g s (record_of (take 5 (drop used bs)))) t e used written next out after ran refl g (drop 5 (drop used bs)))
              ∙ ap (outcome used written out) (sym (has_room g s (length out - written) (drop used bs) left room))
              ∙ u.makes.whole;
        }

        pub ends : e ≡ true → Makes g first bs before (used + 5) next after (stopped Ended t)
        unfolding pick
        ends h = rw h at turn

        pub goes_on : e ≡ false → Under g first bs before t (used + 5) next after
        unfolding pick
        goes_on h = record {
          flags = rw ran.state (acted_flags g s (call_of (record_of (take 5 (drop used bs)))) u.flags);
          same = wrote_length ran.wrote ∙ u.same;
          makes = rw h at turn;
        }
