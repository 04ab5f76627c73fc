-- The pair list as text.
use Rattle.std.specs.Prelude.{ℕ, ◌≤◌, ◌≡◌, Bool, List, ◌∷◌, length}
use Rattle.std.proofs.Common.{arith, le-leb}
use Rattle.laws.specs.Choice.{pick}
use Rattle.rules.specs.Listing.{numbers, reply_text}
use Rattle.rules.specs.Pairs.{raised_from, pairs, listed}
use Rattle.rules.specs.Run.{list, look, call}
use Rattle.raised.specs.Below.{no_more}
use Rattle.rules.specs.declared.graph.Graph.{Graph}
use Rattle.rules.specs.declared.state.State.{State}

-- "`p` and edges"
abbrev pub pairs_text : List Bool → List ℕ
pairs_text stalled = 112 ∷ numbers (raised_from 0 stalled)

-- this is what a session's call of kind 3 is answered
pub pairs_told : (g : Graph) (s : State) → length s.stalled ≤ 1_024 → reply_text (call g s (look (list 1_024))).reply ≡ pairs_text s.stalled
unfolding call listed pairs pick
pairs_told g s h = let l = no_more 0 s.stalled in rw (le-leb (length (raised_from 0 s.stalled)) 1_024 (omega arith))
