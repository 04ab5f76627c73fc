-- Document 01's session is the session of its records: each of its five bytes is split off and acts as its call does.
use Prim.Native.Nat.{ℕ}
use mathlib.Core.Path.{◌≡◌, refl, sym, ap, ◌∙◌}
use mathlib.Core.List.{List, [], ◌∷◌, append-nil}
use mathlib.Core.Option.{Option, none, some}
use Rattle.laws.specs.Choice.{pick}
use Rattle.rules.specs.Run.{Call, call}
use Rattle.rules.specs.Listing.{line, reply_text, bad_record, after as afterText, session as session1}
use Rattle.rules.specs.declared.graph.Graph.{Graph}
use Rattle.rules.specs.declared.state.State.{State}
use Rattle.records.specs.Records.{Record, split_from}
use Rattle.records.specs.Chunks.{Acted, Told, silent, after, end_text, tells, session}
use Rattle.records.specs.Session.{behind, call_of, acted_by, acted, of_session}
use Rattle.records.proofs.Cuts.{session_record}

module _ (g : Graph) where
  abbrev goes_on_lem : Acted State → Told State → Told State
  goes_on_lem one rest = after one.text (pick one.ended (silent one.state) rest)

  by_call : (s : State) (rest : List ℕ) (o : Option Call)
      → ((t : State) → of_session (session1 g t rest) ≡ session (acted g) behind t rest)
      → of_session (elim o [ none ↦ bad_record s | some q ↦ let t = call g s q in afterText (line (reply_text t.reply)) (session1 g t.state rest) ])
      ≡ goes_on_lem (acted_by g s o) (session (acted g) behind (acted_by g s o).state rest)
  unfolding acted_by pick
  by_call s rest none h = rw append-nil
  by_call s rest (some q) h = ap (after (line (reply_text (call g s q).reply))) (h (call g s q).state)

  pub session_is : (bs : List ℕ) (s : State) → of_session (session1 g s bs) ≡ session (acted g) behind s bs
  unfolding session1 session tells split_from pick end_text call_of
  session_is [] s = refl
  session_is (k ∷ []) s = refl
  session_is (k ∷ a ∷ []) s = refl
  session_is (k ∷ a ∷ b ∷ []) s = refl
  session_is (k ∷ a ∷ b ∷ c ∷ []) s = refl
  session_is (k ∷ a ∷ b ∷ c ∷ d ∷ rest) s =
      let r : Record = record { kind = k; body = a ∷ b ∷ c ∷ d ∷ [] } in
      by_call s rest (call_of r) (session_is rest) ∙ sym (session_record (acted g) behind s r rest refl)
