-- Cutting a session into other chunks gives the same listing: so it is of any records, and document 01's session is that of its records.
use Prim.Native.Nat.{ℕ}
use mathlib.Core.Path.{◌≡◌, sym, ap, ◌∙◌}
use mathlib.Core.List.{List, [], ◌++◌, flatten}
use Rattle.rules.specs.Listing.{session}
use Rattle.rules.specs.declared.graph.Graph.{Graph}
use Rattle.rules.specs.declared.state.State.{State}
use Rattle.records.specs.Chunks.{Told}
use Rattle.records.specs.Session.{behind, acted}
use Rattle.records.proofs.Cuts as RecordCuts
use Rattle.records.proofs.Session.{session_is}
use Rattle.listing.specs.Lines.{longest_pairs}
use Rattle.session.specs.Chunk.{Replay}

module _ (g : Graph) where
  -- whatever is read when, and run with whatever room: the text is the session's
  pub replay_is_session : {s : State} {held : List ℕ} {pieces : List (List ℕ)} {text : List ℕ} → Replay g s held pieces text
      → text ≡ (session g s (held ++ flatten pieces)).text
  replay_is_session {s} {held} {pieces} r =
      RecordCuts.replay_is_session (acted g) behind longest_pairs r ∙ ap (λ (t : Told State). t.text) (sym (session_is g (held ++ flatten pieces) s))

  -- so two cuttings of the same bytes give the same text
  pub cuts_agree : {s : State} {ps qs : List (List ℕ)} {t u : List ℕ} → flatten ps ≡ flatten qs → Replay g s [] ps t → Replay g s [] qs u → t ≡ u
  cuts_agree e p q = RecordCuts.cuts_agree (acted g) behind longest_pairs e p q

  -- and every cutting has a replay
  pub replays : (pieces : List (List ℕ)) (s : State) (held : List ℕ) → (text : List ℕ) × Replay g s held pieces text
  replays pieces s held = RecordCuts.replays (acted g) behind longest_pairs pieces s held
