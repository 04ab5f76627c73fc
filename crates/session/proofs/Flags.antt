-- A flag for each of 1,024 edges: a reset and a cycle's units leave so many, and the other calls are made of cycles.
use Prim.Native.Nat.{ℕ}
use mathlib.Core.Path.{◌≡◌, ◌∙◌}
use mathlib.Core.Bool.{Bool, true, false}
use mathlib.Core.List.{List, []}
use mathlib.Core.Option.{Option, none, some}
use lib.ListN.{length, replicate, length-replicate, length-set}
use Rattle.laws.specs.Choice.{by_test}
use Rattle.laws.specs.Fold.{up_to_keeps}
use Rattle.rules.specs.Units.{stalled_edges}
use Rattle.rules.specs.State.{fresh_state}
use Rattle.rules.specs.Run.{Call, call}
use Rattle.rules.specs.declared.graph.Graph.{Graph}
use Rattle.rules.specs.declared.state.State.{State}
use Rattle.promises.proofs.Reached.{call_keeps}
use Rattle.records.specs.Session.{acted_by}

abbrev AllFlags : List Bool → Type 0
AllFlags flags = length flags ≡ 1_024

units_flags : (es rs fs : List ℕ) (ne : ℕ) (us : List ℕ) (nu : ℕ) → AllFlags (stalled_edges es rs fs ne us nu)
unfolding stalled_edges
units_flags es rs fs ne us nu =
    up_to_keeps _ (replicate 1_024 false) AllFlags (length-replicate 1_024 false) (λ k flags h. by_test AllFlags _ (λ t. length-set flags _ true ∙ h) (λ t. h)) nu

module _ (g : Graph) where
  fresh_flags : (m : ℕ) → AllFlags (fresh_state g m).stalled
  unfolding fresh_state
  fresh_flags m = length-replicate 1_024 false

  call_flags : (s : State) (q : Call) → AllFlags s.stalled → AllFlags (call g s q).state.stalled
  call_flags s q h =
      call_keeps g (λ t es. AllFlags t.stalled) fresh_flags (λ m t es p. p) (λ t u i f es b p done. rw done.stalled (units_flags _ _ _ _ _ _)) s q [] h

  pub acted_flags : (s : State) (q : Option Call) → length s.stalled ≡ 1_024 → length (acted_by g s q).state.stalled ≡ 1_024
  unfolding acted_by
  acted_flags s none h = h
  acted_flags s (some q) h = call_flags s q h
