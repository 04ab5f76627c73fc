-- Cutting the input into other chunks gives the same listing, whatever the records are: a chunk and the session of the bytes that it leaves
-- make the whole session.
use Prim.Native.Nat.{ℕ, zero, suc, ◌+◌, ◌-◌, ◌≤◌}
use mathlib.Core.Path.{◌≡◌, refl, sym, ap, ◌∙◌}
use mathlib.Core.Bool.{Bool, true, false}
use mathlib.Core.List.{List, [], ◌∷◌, ◌++◌, append_assoc, append-nil, flatten}
use native.Mathlib.Omega.{arith}
use borrow.Author.Tests.{le-leb}
use lib.Dec.{leb}
use lib.ListN.{length, drop, length-append, length-drop}
use lib.Seq.{drop-append-le, drop-append-add}
use Rattle.laws.specs.Choice.{pick, by_test}
use Rattle.records.specs.Records.{Record, Split, bytes, joined, split, Fits, AllFit}
use Rattle.records.specs.Chunks.{Acted, Told, Chunk, is_ended, end_text, silent, after, stopped, followed, tells, runs, session, chunk, Replay, reads, goes, ends, closes}
use Rattle.records.specs.declared.Stop.TheVariants.{Ended}
use Rattle.records.proofs.Splitting.{split_none, split_record, joined_split, split_fits}

module _ {S : Type 0} (act : S → Record → Acted S) (behind : ℕ → ℕ) where
  -- the session after a chunk of it, where the bytes `rest` are left
  unfoldable pub resumed : Chunk S → List ℕ → Told S
  resumed c rest = after c.text (pick (is_ended c.stop) (silent c.state) (session act behind c.state rest))

  pub session_record : (s : S) (r : Record) (rest : List ℕ) → Fits behind r → let one = act s r in
      session act behind s (bytes r ++ rest) ≡ after one.text (pick one.ended (silent one.state) (session act behind one.state rest))
  unfolding session tells
  session_record s r rest fits = rw (split_record behind r rest fits)

  -- after an end nothing is left to do
  resumed_ended : (c : Chunk S) (rest : List ℕ) → is_ended c.stop ≡ true → (resumed c rest).text ≡ c.text
  unfolding resumed pick
  resumed_ended c rest e = rw (e, append-nil)

  resumed_on : (c : Chunk S) (rest : List ℕ) → is_ended c.stop ≡ false → resumed c rest ≡ after c.text (session act behind c.state rest)
  unfolding resumed pick
  resumed_on c rest e = rw e

  resumed_followed : (r : Record) (text : List ℕ) (next : Chunk S) (rest : List ℕ) → after text (resumed next rest) ≡ resumed (followed r text next) rest
  unfolding resumed
  resumed_followed r text next rest = rw append_assoc

  -- ---- a chunk of whole records is the start of their session, whatever bytes come after

  abbrev Starts : S → List ℕ → Chunk S → Type 0
  Starts s bs c = session act behind s bs ≡ resumed c (drop c.used bs)

  module _ (longest : ℕ) where
    -- behind a record that may have ended the replay
    goes_on_lem : (ended : Bool) (s : S) (bs : List ℕ) (c : Chunk S) → Starts s bs c → let d = pick ended (stopped Ended s) c in
        pick ended (silent s) (session act behind s bs) ≡ resumed d (drop d.used bs)
    unfolding pick resumed
    goes_on_lem true s bs c h = refl
    goes_on_lem false s bs c h = h

    runs_start : (rs : List Record) → AllFit behind rs → (more : List ℕ) (s : S) (room : ℕ) → Starts s (joined rs ++ more) (runs act longest s room rs)
    unfolding runs resumed pick
    runs_start [] fits more s room = refl
    runs_start (r ∷ rs) fits more s room =
        let bs = joined (r ∷ rs) ++ more in
        let rest = joined rs ++ more in
        let one = act s r in
        let next = runs act longest one.state (room - length one.text) rs in
        let d = pick one.ended (stopped Ended one.state) next in
        let whole : bs ≡ bytes r ++ rest = append_assoc (bytes r) (joined rs) more in
        let behind-it : drop (length (bytes r) + d.used) bs ≡ drop d.used rest = ap (drop (length (bytes r) + d.used)) whole ∙ drop-append-add (bytes r) rest d.used in
        let on = goes_on_lem one.ended one.state rest next (runs_start rs fits.1 more one.state (room - length one.text)) in
        by_test (Starts s bs) (leb longest room)
        (λ t. ap (session act behind s) whole ∙ session_record s r rest fits.0 ∙ ap (after one.text) on ∙ resumed_followed r one.text d (drop d.used rest)
        ∙ ap (resumed (followed r one.text d)) (sym behind-it))
        (λ t. refl)

    used_le : (rs : List Record) (s : S) (room : ℕ) → (runs act longest s room rs).used ≤ length (joined rs)
    unfolding runs
    used_le [] s room = omega arith
    used_le (r ∷ rs) s room =
        let one = act s r in
        let n = length-append (bytes r) (joined rs) in
        let m = used_le rs one.state (room - length one.text) in
        by_test (λ (c : Chunk S). c.used ≤ length (joined (r ∷ rs))) (leb longest room)
        (λ t. by_test (λ (c : Chunk S). length (bytes r) + c.used ≤ length (joined (r ∷ rs))) one.ended (λ e. omega arith) (λ e. omega arith))
        (λ t. omega arith)

    pub starts : (bs more : List ℕ) (s : S) (room : ℕ) → let c = chunk act behind longest s room bs in session act behind s (bs ++ more) ≡ resumed c (drop c.used bs ++ more)
    unfolding chunk
    starts bs more s room =
        let t = split behind bs in
        let c = runs act longest s room t.whole in
        let whole : joined t.whole ++ (t.left ++ more) ≡ bs ++ more = sym (append_assoc (joined t.whole) t.left more) ∙ ap (λ (l : List ℕ). l ++ more) (joined_split behind bs) in
        let inside : c.used ≤ length bs = omega (arith, used_le t.whole s room, length-append (joined t.whole) t.left, ap length (joined_split behind bs)) in
        ap (session act behind s) (sym whole)
        ∙ runs_start t.whole (split_fits behind bs) (t.left ++ more) s room
        ∙ ap (resumed c) (ap (drop c.used) whole ∙ drop-append-le c.used bs more inside)

    -- ---- a replay of input that comes in pieces

    end_of_session : (s : S) (held : List ℕ) → (split behind held).whole ≡ [] → (session act behind s held).text ≡ end_text (length held)
    unfolding session tells
    end_of_session s held h =
        rw h (ap (λ (l : List ℕ). end_text (length l)) (ap (λ (rs : List Record). joined rs ++ (split behind held).left) (sym h) ∙ joined_split behind held))

    -- whatever is read when, and run with whatever room: the text is the session's
    pub replay_is_session : {s : S} {held : List ℕ} {pieces : List (List ℕ)} {text : List ℕ} → Replay act behind longest s held pieces text
        → text ≡ (session act behind s (held ++ flatten pieces)).text
    unfolding flatten
    replay_is_session (reads {held} {piece} {pieces} r) = replay_is_session r ∙ rw append_assoc
    replay_is_session (goes {s} {held} {pieces} room c e f r) =
        rw (starts held (flatten pieces) s room, ← e, resumed_on c (drop c.used held ++ flatten pieces) f, ← replay_is_session r)
    replay_is_session (ends {s} {held} {pieces} room c e f) = rw (starts held (flatten pieces) s room, ← e, resumed_ended c (drop c.used held ++ flatten pieces) f)
    replay_is_session (closes {s} {held} h) = sym (rw append-nil (end_of_session s held h))

    -- so two cuttings of the same bytes give the same text
    pub cuts_agree : {s : S} {ps qs : List (List ℕ)} {t u : List ℕ} → flatten ps ≡ flatten qs → Replay act behind longest s [] ps t → Replay act behind longest s [] qs u
        → t ≡ u
    cuts_agree {s} e p q = replay_is_session p ∙ ap (λ (bs : List ℕ). (session act behind s bs).text) e ∙ sym (replay_is_session q)

    -- ---- every cutting has a replay: with room for the longest line, a whole record gets on

    none_whole : (held : List ℕ) → length held ≤ 0 → (split behind held).whole ≡ []
    none_whole [] l = ap (λ (t : Split). t.whole) (split_none behind)
    none_whole (b ∷ bs) l = absurd (omega arith)

    gets_on_lem : (r : Record) (rs : List Record) (s : S) → 1 ≤ (runs act longest s longest (r ∷ rs)).used
    unfolding runs pick
    gets_on_lem r rs s = rw (le-leb longest longest (omega arith)) (omega arith)

    -- from no whole record, or from what a chunk leaves of more than that, to here
    module _ (pieces : List (List ℕ)) (s : S) (held : List ℕ) (cut : (split behind held).whole ≡ [] → (text : List ℕ) × Replay act behind longest s held pieces text) where
      run_one : (rs : List Record) (ended : Bool) → (split behind held).whole ≡ rs → is_ended (chunk act behind longest s longest held).stop ≡ ended
          → (1 ≤ (chunk act behind longest s longest held).used → (text : List ℕ)
          × Replay act behind longest (chunk act behind longest s longest held).state (drop (chunk act behind longest s longest held).used held) pieces text)
          → (text : List ℕ) × Replay act behind longest s held pieces text
      unfolding chunk
      run_one [] ended p q on = cut p
      run_one (r ∷ rs) true p q on = (_, ends longest (chunk act behind longest s longest held) refl q)
      run_one (r ∷ rs) false p q on = (_, goes longest (chunk act behind longest s longest held) refl q (on (rw p (gets_on_lem r rs s))).1)

    -- what is held is run down to no whole record
    runs_down : (pieces : List (List ℕ)) → ((t : S) (left : List ℕ) → (split behind left).whole ≡ [] → (text : List ℕ) × Replay act behind longest t left pieces text)
        → (n : ℕ) (s : S) (held : List ℕ) → length held ≤ n → (text : List ℕ) × Replay act behind longest s held pieces text
    runs_down pieces cut zero s held l = cut s held (none_whole held (omega arith))
    runs_down pieces cut (suc n) s held l =
        let c = chunk act behind longest s longest held in
        run_one pieces s held (cut s held) (split behind held).whole (is_ended c.stop) refl refl
        (λ h. runs_down pieces cut n c.state (drop c.used held) (omega (arith, length-drop c.used held, h)))

    pub replays : (pieces : List (List ℕ)) (s : S) (held : List ℕ) → (text : List ℕ) × Replay act behind longest s held pieces text
    replays [] s held = runs_down [] (λ t left h. (_, closes h)) (length held) s held (omega arith)
    replays (piece ∷ pieces) s held =
        runs_down (piece ∷ pieces) (λ t left h. (_, reads (replays pieces t (left ++ piece)).1)) (length held) s held (omega arith)
