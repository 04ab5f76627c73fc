-- Demand 3's reports: what the replies to searches say, against the growth steps that the ledger notes of them.
use Rattle.std.specs.Prelude.{ℕ, ◌+◌, ◌<◌, ◌≤◌, ◌≡◌, List, [], ◌∷◌, length}
use Rattle.rules.specs.Numbers.{refusal_number}
use Rattle.rules.specs.Pairs.{pairs}
use Rattle.rules.specs.Search.{GrowthStep}
use Rattle.rules.specs.Run.{Look, list, Call, execute, word, clear, seek, seek_on, look, Reply, executed, carried, cleared, found, paired, call}
use Rattle.rules.specs.declared.graph.Graph.{Graph}
use Rattle.rules.specs.declared.state.State.{State}
use Rattle.rules.specs.declared.finding.Tally.{Tally}
use Rattle.rules.specs.declared.finding.Sought.TheVariants as S
use Rattle.std.specs.Prelude.{Err, Ok}
use Rattle.promises.specs.Ledger.{sum, noted}

-- t is reported, with so much of the maximum left, of a search that began with the maximum m and made the steps es
pub record Counted (m : ℕ) (es : List GrowthStep) (t : Tally) (rest : ℕ) : Type 0 where
  -- "exactly the sum of its completed steps .."
  pub growth : t.growth ≡ sum es
  -- .. and how many these are ..
  pub steps : t.steps ≡ length es
  -- ".. which is the maximum it began with less the maximum left"
  pub left : t.growth + rest ≡ m

-- the reply to a search that was begun, whether it found or was stopped
abbrev pub Begun : ℕ → List GrowthStep → Reply → Type 0
Begun m es (found (S.Found f t) rest) = Counted m es t rest
-- "so 14 never arises in a search"
Begun m es (found (S.Stopped r t) rest) = Counted m es t rest × (refusal_number r ≡ 14 → ⊥)
Begun m es (found (S.NotBegun r) rest) = ⊥
Begun m es (executed a) = ⊥
Begun m es (carried a) = ⊥
Begun m es cleared = ⊥
Begun m es (paired n ps) = ⊥

-- the reply to a search that was not begun, where the maximum was m: 13, no step, and all is left
abbrev pub NotBegun : ℕ → List GrowthStep → Reply → Type 0
NotBegun m es (found (S.NotBegun r) rest) = (refusal_number r ≡ 13) × (es ≡ []) × (rest ≡ m)
NotBegun m es (found (S.Found f t) rest) = ⊥
NotBegun m es (found (S.Stopped r t) rest) = ⊥
NotBegun m es (executed a) = ⊥
NotBegun m es (carried a) = ⊥
NotBegun m es cleared = ⊥
NotBegun m es (paired n ps) = ⊥

-- the reply to a listing: all pairs, or "19: pair list longer than the buffer lent" and none of them
abbrev pub Lists : State → ℕ → Reply → Type 0
Lists s room (paired (Ok n) es) = (es ≡ pairs s) × (n ≡ length es) × (n ≤ room)
Lists s room (paired (Err r) es) = (es ≡ []) × (refusal_number r ≡ 19) × (room < length (pairs s))
Lists s room (executed a) = ⊥
Lists s room (carried a) = ⊥
Lists s room cleared = ⊥
Lists s room (found a rest) = ⊥

-- the reply to a look
abbrev pub Looks : State → Look → Reply → Type 0
Looks s (list room) r = Lists s room r

module _ (g : Graph) where
  -- the growth steps that a call on s adds to an empty ledger
  abbrev pub made_by : State → Call → List GrowthStep
  made_by s c = noted g s [] c

  -- what the reply to a call on s must say; "13: .. negative maximum"
  abbrev pub Reports : State → Call → Reply → Type 0
  Reports s (seek m) r =
      (m < 2_147_483_648 → Begun m (made_by s (seek m)) r) × (2_147_483_648 ≤ m → NotBegun s.maximum (made_by s (seek m)) r)
  Reports s seek_on r = Begun s.maximum (made_by s seek_on) r
  Reports s (execute i) r = Unit {0}
  Reports s (word w) r = Unit {0}
  Reports s clear r = Unit {0}
  Reports s (look l) r = Looks s l r

  -- each reply, for the state that its call was made on
  abbrev pub AllReport : State → List Call → List Reply → Type 0
  AllReport s [] [] = Unit {0}
  AllReport s [] (r ∷ rs) = ⊥
  AllReport s (c ∷ cs) [] = ⊥
  AllReport s (c ∷ cs) (r ∷ rs) = Reports s c r × AllReport (call g s c).state cs rs
