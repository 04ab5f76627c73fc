-- Document 01's session records: "five bytes each: kind and u32 value".
use Rattle.std.specs.Prelude.{ℕ, true, false}
use Rattle.std.proofs.Math.Option.{Option, none, some}
use Rattle.rules.specs.Run.{Call, call}
use Rattle.rules.specs.Listing.{line, reply_text, refusal_text, record_call, Session}
use Rattle.rules.specs.declared.graph.Graph.{Graph}
use Rattle.rules.specs.declared.state.State.{State}
use Rattle.rules.specs.declared.refusal.Refusal.TheVariants.{SessionRecord}
use Rattle.records.specs.Records.{Record, value_at}
use Rattle.records.specs.Chunks.{Acted, Told}

abbrev pub behind : ℕ → ℕ
behind kind = 4

unfoldable pub call_of : Record → Option Call
call_of r = record_call r.kind (value_at r.body 0)

module _ (g : Graph) where
  -- "18: session record .. of another kind; replay ends"
  unfoldable pub acted_by : State → Option Call → Acted State
  acted_by s none = record { text = line (refusal_text SessionRecord); state = s; ended = true }
  acted_by s (some q) = let t = call g s q in record { text = line (reply_text t.reply); state = t.state; ended = false }

  abbrev pub acted : State → Record → Acted State
  acted s r = acted_by s (call_of r)

abbrev pub of_session : Session → Told State
of_session t = record { text = t.text; state = t.state }
