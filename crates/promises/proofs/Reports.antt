-- What a search counts is what its reply says.
use Prim.Native.Nat.{ℕ, ◌<◌, ◌≤◌}
use mathlib.Core.Path.{◌≡◌, refl, ap}
use mathlib.Core.Bool.{Bool, true, false}
use mathlib.Core.List.{List, [], ◌∷◌, ◌++◌, append-nil}
use native.Mathlib.Omega.{arith}
use borrow.Author.Tests.{ltb-true, ltb-false, leb-true, leb-false}
use lib.Dec.{ltb, leb}
use lib.ListN.{length}
use Rattle.laws.specs.Choice.{pick, by_test}
use Rattle.rules.specs.Pairs.{pairs, listed}
use Rattle.rules.specs.State.{with_maximum}
use Rattle.rules.specs.Search.{GrowthStep, tally, search, search_on, search_to}
use Rattle.rules.specs.Run.{Look, list, Call, execute, word, clear, seek, seek_on, look, found, of_search, of_list, looked, call, replies}
use Rattle.rules.specs.declared.graph.Graph.{Graph}
use Rattle.rules.specs.declared.state.State.{State}
use Rattle.rules.specs.Types.{Answer, Listed}
use Rattle.std.specs.Prelude.{Err, Ok}
use Rattle.rules.specs.declared.finding.Tally.{Tally}
use Rattle.rules.specs.declared.finding.Sought.TheVariants as S
use Rattle.rules.specs.declared.refusal.Refusal.TheVariants as R
use Rattle.promises.specs.Ledger.{noted}
use Rattle.promises.specs.Reports.{Counted, Begun, NotBegun, made_by, Lists, Looks, Reports, AllReport}
use Rattle.promises.proofs.Numbers.{only_14}
use Rattle.promises.proofs.Searches.{search_counts, search_not_below}

by_answer : (m : ℕ) (es : List GrowthStep) (t : Tally) (left : ℕ) (a : Answer) → Counted m es t left → (a ≡ Err R.BelowZero → ⊥)
    → Begun m es (found (elim a [ Ok f ↦ S.Found f t | Err r ↦ S.Stopped r t ]) left)
by_answer m es t left (Ok f) c n = c
by_answer m es t left (Err r) c n = (c, λ e. n (ap Err (only_14 r e)))

list_reports : (s : State) (room : ℕ) → Lists s room (of_list (listed s room) (pairs s))
unfolding listed
list_reports s room =
    by_test (λ (a : Listed). Lists s room (of_list a (pairs s))) (leb (length (pairs s)) room)
    (λ t. (refl, refl, leb-true (length (pairs s)) room t)) (λ t. (refl, refl, leb-false (length (pairs s)) room t))

module _ (g : Graph) where
  look_reports : (s : State) (l : Look) → Looks s l (looked g s l)
  look_reports s (list room) = list_reports s room

  pub begun_reports : (s : State) → Begun s.maximum ((search g s).walk.trail ++ []) (of_search (search_on g s)).reply
  unfolding search_on
  begun_reports s =
      let c = search_counts g s in
      rw append-nil (by_answer s.maximum (search g s).walk.trail (tally (search g s).walk) (search g s).walk.state.maximum (search g s).answer
      (record { growth = c.growth; steps = c.steps; left = c.left }) (search_not_below g s))

  seek_reports : (s : State) (m : ℕ) (b : Bool) → ltb m 2_147_483_648 ≡ b
      → let r = (of_search (pick b (search_on g (with_maximum m s)) (record { state = s; answer = S.NotBegun R.OutOfBounds }))).reply in
      let es = pick b ((search g (with_maximum m s)).walk.trail ++ []) [] in
      (m < 2_147_483_648 → Begun m es r) × (2_147_483_648 ≤ m → NotBegun s.maximum es r)
  unfolding pick
  seek_reports s m true t = (λ l. begun_reports (with_maximum m s), λ l. let z : ⊥ = omega (arith, ltb-true m 2_147_483_648 t) in absurd z)
  seek_reports s m false t = (λ l. let z : ⊥ = omega (arith, ltb-false m 2_147_483_648 t) in absurd z, λ l. (refl, refl, refl))

  pub call_reports : (s : State) (c : Call) → Reports g s c (call g s c).reply
  unfolding call noted search_to
  call_reports s (seek m) = seek_reports s m (ltb m 2_147_483_648) refl
  call_reports s seek_on = begun_reports s
  call_reports s (execute i) = tt
  call_reports s (word w) = tt
  call_reports s clear = tt
  call_reports s (look l) = look_reports s l

  pub all_report : (s : State) (cs : List Call) → AllReport g s cs (replies g s cs)
  unfolding replies
  all_report s [] = tt
  all_report s (c ∷ cs) = (call_reports s c, all_report (call g s c).state cs)

  -- ---- the ledger notes of a search what it made, before what was noted

  seek_noted : (s : State) (m : ℕ) (es : List GrowthStep) (b : Bool)
      → pick b ((search g (with_maximum m s)).walk.trail ++ es) es ≡ pick b ((search g (with_maximum m s)).walk.trail ++ []) [] ++ es
  unfolding pick
  seek_noted s m es true = rw append-nil
  seek_noted s m es false = refl

  pub search_noted : (s : State) (m : ℕ) (es : List GrowthStep)
      → (noted g s es (seek m) ≡ made_by g s (seek m) ++ es) × (noted g s es seek_on ≡ made_by g s seek_on ++ es)
  unfolding noted
  search_noted s m es = (seek_noted s m es (ltb m 2_147_483_648), rw append-nil)
