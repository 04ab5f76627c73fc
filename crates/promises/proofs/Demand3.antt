-- Demand 3, over any list of calls from a fresh decoder, resets and refusals included. Each statement stands under its sentence; the proofs
-- are in the files beside this one. That speeds, joint speeds, lengths and refusals are document 01's numbers is in Numbers.antt.
use Prim.Native.Nat.{ℕ, ◌<◌}
use mathlib.Core.Path.{◌≡◌, refl, ◌∙◌}
use mathlib.Core.List.{List, [], ◌++◌, append-nil}
use borrow.Author.Tests.{lt-ltb}
use lib.IntN.{pos}
use Rattle.laws.specs.Choice.{pick}
use Rattle.rules.specs.Graph.{in_use}
use Rattle.rules.specs.Registers.{at}
use Rattle.rules.specs.State.{first_state, fresh_state, with_maximum}
use Rattle.rules.specs.Search.{GrowthStep, begun, walked, search, search_on, search_to}
use Rattle.rules.specs.Run.{Call, seek, seek_on, call, replies, run}
use Rattle.rules.specs.declared.graph.Graph.{Graph}
use Rattle.rules.specs.declared.state.State.{State}
use Rattle.promises.specs.Ledger.{total, ledger, noted}
use Rattle.promises.specs.Careful.{CarefulCalls}
use Rattle.promises.specs.Reports.{made_by, Reports, AllReport}
use Rattle.promises.specs.Trail.{IsTrail, Same, search_calls}
use Rattle.promises.proofs.Reached.{fresh_sound, run_sound, run_from_fresh}
use Rattle.promises.proofs.Sums.{run_agrees}
use Rattle.promises.proofs.Searches.{search_trail, search_ends}
use Rattle.promises.proofs.Reports.{call_reports, all_report, search_noted}
use Rattle.promises.proofs.Expanded.{search_same}
use Rattle.promises.proofs.Careful.{calls_careful}

module _ (g : Graph) where
  -- the state that any calls leave
  abbrev pub after : List Call → State
  after cs = run g (first_state g) cs

  -- "a vertex's grown amount is the sum, over completed growth steps since the last reset, of length times the speed it held before that
  -- step, leaving out steps where it was stalled or waiting for its layer"
  pub grown_is : (cs : List Call) (v : ℕ) → v < (in_use g).nv → pos (at (after cs).registers v).grown ≡ total g v (ledger g (first_state g) [] cs)
  grown_is cs v l = (run_agrees g cs).each v l

  -- "A search that was begun reports exactly the sum of its completed steps, which is the maximum it began with less the maximum left"; "so 14
  -- never arises in a search": every reply of every run ..
  pub reports_are : (cs : List Call) → AllReport g (first_state g) cs (replies g (first_state g) cs)
  reports_are cs = all_report g (first_state g) cs

  -- .. and so of one call after any others
  pub report_is : (cs : List Call) (c : Call) → Reports g (after cs) c (call g (after cs) c).reply
  report_is cs c = call_reports g _ c

  -- .. whose steps are what the ledger notes of it
  pub noted_is : (s : State) (m : ℕ) (es : List GrowthStep)
      → (noted g s es (seek m) ≡ made_by g s (seek m) ++ es) × (noted g s es seek_on ≡ made_by g s seek_on ++ es)
  noted_is s m es = search_noted g s m es

  -- these steps are the search: a finding and the Grow that it allows for each, none missing, and a last finding ..
  pub trail_is : (s : State) → IsTrail (in_use g) s (search g s)
  trail_is s = search_trail g s

  -- .. so after any calls a search, with what is left or with a new maximum, leaves what these leave as calls, apart from the maximum, and
  -- the ledger notes the same of it
  pub search_on_is : (cs : List Call) → let es = made_by g (after cs) seek_on in Same g (after cs) es (search_calls es) (call g (after cs) seek_on).state
  unfolding call noted search_on
  search_on_is cs = rw append-nil (search_same g _ (run_sound g cs))

  pub search_to_is : (cs : List Call) (m : ℕ) → m < 2_147_483_648 → let es = made_by g (after cs) (seek m) in
      Same g (with_maximum m (after cs)) es (search_calls es) (call g (after cs) (seek m)).state
  unfolding call noted search_on search_to pick
  search_to_is cs m l = rw (lt-ltb m 2_147_483_648 l, append-nil) (search_same g _ (run_sound g cs))

  -- "It ends within maximum + 1 findings": any larger bound on its turns gives the same search
  pub ends_within : (s : State) (n : ℕ) → s.maximum < n → walked (in_use g) n (begun s) ≡ search g s
  ends_within s n l = search_ends g s n l

  -- "No step of a search takes below zero a vertex's amount, nor what remained (zero or more) on an edge whose ends showed different shadow
  -- nodes in the finding before that step": every search of every run
  pub careful_are : (cs : List Call) → CarefulCalls g (first_state g) cs
  unfolding first_state
  careful_are cs = calls_careful g _ cs (fresh_sound g _)

  -- no call changes a weight
  pub weights_are : (cs : List Call) → (after cs).weights ≡ g.weights
  unfolding fresh_state
  weights_are cs = run_from_fresh g (λ s es. s.weights ≡ g.weights) (λ m. refl) (λ m s es p. p) (λ s t i f es b p h. h.weights ∙ p) cs
