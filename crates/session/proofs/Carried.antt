-- A chunk is the calls that its bytes carry, and so is a session: each record is its call, and a record of another kind the end.
use Prim.Native.Nat.{ℕ, ◌+◌, ◌-◌}
use mathlib.Core.Path.{◌≡◌, refl, sym, ap, ◌∙◌, subst}
use mathlib.Core.Bool.{false}
use mathlib.Core.List.{List, [], ◌∷◌, ◌++◌, append_assoc, append-nil}
use mathlib.Core.Option.{Option, none, some}
use lib.Dec.{leb}
use lib.ListN.{length, take}
use lib.Seq.{take-append-add}
use Rattle.laws.specs.Choice.{pick, by_test}
use Rattle.rules.specs.Run.{Call, call, run, replies}
use Rattle.rules.specs.Listing.{line, lines, reply_text, session}
use Rattle.rules.specs.declared.graph.Graph.{Graph}
use Rattle.rules.specs.declared.state.State.{State}
use Rattle.listing.specs.Lines.{longest_pairs}
use Rattle.records.specs.Records.{Record, bytes, joined, split, Fits, AllFit}
use Rattle.records.specs.Chunks.{Told, Chunk, is_ended, silent, after, stopped, followed, tells, runs}
use Rattle.records.specs.Chunks
use Rattle.records.specs.Session.{behind, call_of, acted_by, acted}
use Rattle.records.specs.declared.Stop.{Stop}
use Rattle.records.specs.declared.Stop.TheVariants.{WantsBytes, WantsRoom, Ended}
use Rattle.records.proofs.Splitting.{split_none, split_record, joined_split, split_fits}
use Rattle.records.proofs.Session.{session_is}
use Rattle.session.specs.Chunk.{chunk}
use Rattle.session.specs.Calls.{before, calls, calls_in, used, end_after, end_behind, end_of, Carries, CarriesAll}

no_calls : calls_in [] ≡ []
unfolding calls_in
no_calls = rw (split_none behind)

next_call : (r : Record) (rest : List ℕ) → Fits behind r → calls_in (bytes r ++ rest) ≡ before (call_of r) (calls_in rest)
unfolding calls_in
next_call r rest fits = rw (split_record behind r rest fits)

module _ (g : Graph) where
  -- whyever it stopped, and nothing was done
  stopped_carries : (s : State) (why : Stop) → is_ended why ≡ false → Carries g s [] (stopped why s)
  unfolding run replies lines pick
  stopped_carries s why e = record { state = refl; text = rw e }

  -- a record, and the chunk of the bytes behind it where it did not end the replay
  record_carries : (s : State) (r : Record) (o : Option Call) (next : Chunk State) (rest : List ℕ)
      → let one = acted_by g s o in Carries g one.state (used next rest) next
      → let d = pick one.ended (stopped Ended one.state) next in Carries g s (before o (used d rest)) (followed r one.text d)
  unfolding acted_by pick run replies lines
  record_carries s r none next rest h = record { state = refl; text = rw append-nil }
  record_carries s r (some q) next rest h =
      let told = line (reply_text (call g s q).reply) in
      record { state = h.state; text = ap (λ (x : List ℕ). told ++ x) h.text ∙ sym (append_assoc told _ _) }

  runs_carries : (rs : List Record) → AllFit behind rs → (more : List ℕ) (s : State) (room : ℕ)
      → let c = runs (acted g) longest_pairs s room rs in Carries g s (used c (joined rs ++ more)) c
  unfolding runs
  runs_carries [] fits more s room = rw no_calls (stopped_carries s WantsBytes refl)
  runs_carries (r ∷ rs) fits more s room =
      let bs = joined (r ∷ rs) ++ more in
      let rest = joined rs ++ more in
      let one = acted g s r in
      let next = runs (acted g) longest_pairs one.state (room - length one.text) rs in
      let d = pick one.ended (stopped Ended one.state) next in
      let whole : bs ≡ bytes r ++ rest = append_assoc (bytes r) (joined rs) more in
      let taken : take (length (bytes r) + d.used) bs ≡ bytes r ++ take d.used rest = ap (take (length (bytes r) + d.used)) whole ∙ take-append-add (bytes r) rest d.used in
      by_test (λ (c : Chunk State). Carries g s (used c bs) c) (leb longest_pairs room)
      (λ t. subst (λ (cs : List Call). Carries g s cs (followed r one.text d)) (sym (ap calls_in taken ∙ next_call r (take d.used rest) fits.0))
      (record_carries s r (call_of r) next rest (runs_carries rs fits.1 more one.state (room - length one.text))))
      (λ t. rw no_calls (stopped_carries s WantsRoom refl))

  pub chunk_carries : (bs : List ℕ) (s : State) (room : ℕ) → Carries g s (used (chunk g s room bs) bs) (chunk g s room bs)
  unfolding Chunks.chunk
  chunk_carries bs s room =
      let t = split behind bs in
      let c = runs (acted g) longest_pairs s room t.whole in
      subst (λ (xs : List ℕ). Carries g s (used c xs) c) (joined_split behind bs) (runs_carries t.whole (split_fits behind bs) t.left s room)

-- ---- so is a session

module _ (g : Graph) where
  by_call : (s : State) (o : Option Call) (rs : List Record) (left : ℕ) (rest : Told State)
      → let one = acted_by g s o in (rest.state ≡ run g one.state (calls rs)) × (rest.text ≡ lines (replies g one.state (calls rs)) ++ end_behind rs left)
      → let t = after one.text (pick one.ended (silent one.state) rest) in
      (t.state ≡ run g s (before o (calls rs))) × (t.text ≡ lines (replies g s (before o (calls rs))) ++ end_after o (end_behind rs left))
  unfolding acted_by pick run replies lines
  by_call s none rs left rest h = (refl, append-nil _)
  by_call s (some q) rs left rest h =
      let told = line (reply_text (call g s q).reply) in
      (h.0, ap (λ (x : List ℕ). told ++ x) h.1 ∙ sym (append_assoc told _ _))

  tells_carries : (rs : List Record) (left : ℕ) (s : State) → let t = tells (acted g) s rs left in
      (t.state ≡ run g s (calls rs)) × (t.text ≡ lines (replies g s (calls rs)) ++ end_behind rs left)
  unfolding tells run replies lines
  tells_carries [] left s = (refl, refl)
  tells_carries (r ∷ rs) left s = by_call s (call_of r) rs left _ (tells_carries rs left (acted g s r).state)

  pub session_carries : (bs : List ℕ) (s : State) → CarriesAll g s bs (session g s bs)
  unfolding Chunks.session calls_in end_of
  session_carries bs s =
      let is = session_is g bs s in
      let h = tells_carries (split behind bs).whole (length (split behind bs).left) s in
      record { state = ap (λ (t : Told State). t.state) is ∙ h.0; text = ap (λ (t : Told State). t.text) is ∙ h.1 }
