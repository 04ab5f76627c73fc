-- Document 01, "Replay listing": session records in, lines out, as bytes.
use Rattle.std.specs.Prelude.{ℕ, zero, suc, ◌+◌, ◌*◌, ◌/◌, ◌%◌, List, [], ◌∷◌, ◌++◌, ltb, get_or, drop}
use Rattle.std.proofs.Math.Option.{Option, none, some}
use Rattle.laws.specs.Choice.{pick}
use Rattle.rules.specs.Numbers.{refusal_number}
use Rattle.rules.specs.State.{first_state}
use Rattle.rules.specs.Image.{opened, vertex_count, edge_count}
use Rattle.rules.specs.Run.{list, Call, word, seek, seek_on, look, Reply, executed, carried, cleared, found, paired, call}
use Rattle.rules.specs.declared.graph.Graph.{Graph}
use Rattle.rules.specs.Types.{Node, Opening}
use Rattle.std.specs.Prelude.{Err, None, Ok, Some}
use Rattle.rules.specs.declared.state.State.{State}
use Rattle.rules.specs.declared.finding.Length.{Length}
use Rattle.rules.specs.declared.finding.Length.TheVariants.{NoLimit, Ahead, Behind}
use Rattle.rules.specs.declared.finding.Finding.{Finding}
use Rattle.rules.specs.declared.finding.Finding.TheVariants.{GrowLength, Conflict}
use Rattle.rules.specs.declared.finding.Carried.TheVariants as W
use Rattle.rules.specs.declared.finding.Tally.{Tally}
use Rattle.rules.specs.declared.finding.Sought.TheVariants as S
use Rattle.rules.specs.declared.refusal.Refusal.{Refusal}
use Rattle.rules.specs.declared.refusal.Refusal.TheVariants.{SessionRecord}

-- ---- numbers and words, each after a space

unfoldable pub digits : ℕ → ℕ → List ℕ
digits zero n = []
digits (suc f) n = pick (ltb n 10) ((48 + n) ∷ []) (digits f (n / 10) ++ ((48 + n % 10) ∷ []))

-- a number below 10,000,000,000 in decimal
unfoldable pub decimal : ℕ → List ℕ
decimal n = digits 10 n

abbrev pub number : ℕ → List ℕ
number n = 32 ∷ decimal n

-- "`max` for no limit"
abbrev pub length_text : Length → List ℕ
length_text NoLimit = 32 ∷ 109 ∷ 97 ∷ 120 ∷ []
length_text (Ahead n) = number n
length_text (Behind n) = 32 ∷ 45 ∷ decimal n

-- "An absent node or touch is `-`, the boundary"
abbrev pub node_text : Node → List ℕ
node_text None = 32 ∷ 45 ∷ []
node_text (Some n) = number n.0

-- "`g` length or `c` node, node, touch, touch, vertex, vertex"
abbrev pub finding_text : Finding → List ℕ
finding_text (GrowLength l) = 32 ∷ 103 ∷ length_text l
finding_text (Conflict a b) =
    32 ∷ 99 ∷ (node_text a.node ++ node_text b.node ++ node_text a.touch ++ node_text b.touch
    ++ number a.vertex.0 ++ number b.vertex.0)

abbrev pub tally_text : Tally → ℕ → List ℕ
tally_text t left = number t.growth ++ number t.steps ++ number left

abbrev pub numbers : List ℕ → List ℕ
numbers [] = []
numbers (n ∷ ns) = number n ++ numbers ns

-- "`r` and number"
abbrev pub refusal_text : Refusal → List ℕ
refusal_text r = 114 ∷ number (refusal_number r)

abbrev pub line : List ℕ → List ℕ
line text = text ++ (10 ∷ [])

-- "`i` finding, `z` for reset, `p` and edges, or `s` finding, growth, steps, maximum left"; "Refusal: `r` and number, then for a begun search
-- growth, steps, maximum left"
abbrev pub reply_text : Reply → List ℕ
reply_text (executed (Ok f)) = 105 ∷ finding_text f
reply_text (executed (Err r)) = refusal_text r
reply_text (carried (Ok (W.Found f))) = 105 ∷ finding_text f
reply_text (carried (Ok W.Reset)) = 122 ∷ []
reply_text (carried (Err r)) = refusal_text r
reply_text cleared = 122 ∷ []
reply_text (found (S.NotBegun r) left) = refusal_text r
reply_text (found (S.Found f t) left) = 115 ∷ (finding_text f ++ tally_text t left)
reply_text (found (S.Stopped r t) left) = refusal_text r ++ tally_text t left
reply_text (paired (Ok n) es) = 112 ∷ numbers es
reply_text (paired (Err r) es) = refusal_text r

-- "one line per record"
unfoldable pub lines : List Reply → List ℕ
lines [] = []
lines (r ∷ rs) = line (reply_text r) ++ lines rs

-- ---- session records: "five bytes each: kind and u32 value"

-- "0: instruction word. 1: search with the value as new maximum. 2: search with what is left. 3: list pairs. Kinds 2 and 3 ignore the value"
unfoldable pub record_call : ℕ → ℕ → Option Call
record_call kind value = get_or (some (word value) ∷ some (seek value) ∷ some seek_on ∷ some (look (list 1_024)) ∷ []) kind none

abbrev pub value_of : ℕ → ℕ → ℕ → ℕ → ℕ
value_of a b c d = a + b * 256 + c * 65_536 + d * 16_777_216

-- the lines of a session, and the state that it leaves
pub record Session : Type 0 where
  pub text : List ℕ
  pub state : State

-- "18: session record cut short or of another kind; replay ends"
abbrev pub bad_record : State → Session
bad_record s = record { text = line (refusal_text SessionRecord); state = s }

abbrev pub after : List ℕ → Session → Session
after text t = record { text = text ++ t.text; state = t.state }

unfoldable pub session : Graph → State → List ℕ → Session
session g s [] = record { text = []; state = s }
session g s (k ∷ []) = bad_record s
session g s (k ∷ a ∷ []) = bad_record s
session g s (k ∷ a ∷ b ∷ []) = bad_record s
session g s (k ∷ a ∷ b ∷ c ∷ []) = bad_record s
session g s (k ∷ a ∷ b ∷ c ∷ d ∷ rest) =
    elim (record_call k (value_of a b c d)) [
      | none ↦ bad_record s
      | some q ↦ let t = call g s q in after (line (reply_text t.reply)) (session g t.state rest)
    ]

-- ---- the whole listing

-- "First line: mark, version, V, E, U"
abbrev pub first_line : ℕ → ℕ → ℕ → List ℕ
first_line v e u = line (68 ∷ 67 ∷ 84 ∷ (number 1 ++ number v ++ number e ++ number u))

-- "A refused image prints only `bad` and the number, in place of that line"
abbrev pub listing_of : List ℕ → Graph → Opening → List ℕ
listing_of bs g (Ok a) = first_line (vertex_count bs) (edge_count bs) a.units ++ (session g (first_state g) (drop a.start bs)).text
listing_of bs g (Err r) = line (98 ∷ 97 ∷ 100 ∷ number (refusal_number r))

unfoldable pub listing : List ℕ → List ℕ
listing bs = listing_of bs (opened bs).graph (opened bs).opening
