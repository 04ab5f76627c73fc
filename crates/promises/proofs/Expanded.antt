-- A search, call by call: no step of it is over the bound of a Grow that is sent, and the maximum changes no cycle, so the calls that its steps
-- stand for leave what it leaves.
use Prim.Native.Nat.{ℕ, ◌<◌, ◌≤◌}
use mathlib.Core.Path.{◌≡◌, refl, sym, ap, ◌∙◌, subst}
use mathlib.Core.Bool.{Bool, true, false}
use mathlib.Core.List.{List, [], ◌∷◌, ◌++◌, map}
use mathlib.Core.Option.{Option, none, some}
use native.Mathlib.Omega.{arith}
use borrow.Author.Tests.{leb-true, leb-false, le-leb, eq-eqb}
use lib.Dec.{leb, eqb}
use Rattle.laws.specs.Choice.{◌or◌, pick, by_test}
use Rattle.laws.specs.Connectives.{or_true}
use Rattle.laws.specs.Fold.{up_to_keeps}
use Rattle.rules.specs.Graph.{in_use, left_of, right_of}
use Rattle.rules.specs.Registers.{at, same_node, shrinking}
use Rattle.rules.proofs.Round.{at_in_range}
use Rattle.rules.specs.Execute.{executed, execute_refusal}
use Rattle.rules.specs.Respond.{vertex_report, joint, respond, edge_response, remaining}
use Rattle.rules.specs.Reduce.{reduce, reported, vertex_finding, finding}
use Rattle.rules.specs.State.{with_maximum}
use Rattle.rules.specs.Instruct.{vertices_stalled, concluded, settled, carried, step, barred, instruct}
use Rattle.rules.specs.Search.{GrowthStep, search}
use Rattle.rules.specs.Words.{in_bounds}
use Rattle.rules.specs.Run.{Call, execute, call, run}
use Rattle.rules.specs.declared.graph.Graph.{Graph}
use Rattle.rules.specs.declared.state.State.{State}
use Rattle.rules.specs.declared.state.Cycle.{Cycle}
use Rattle.rules.specs.Types.{Answer}
use Rattle.std.specs.Prelude.{Err, Ok}
use Rattle.rules.specs.declared.finding.Finding.{Finding}
use Rattle.rules.specs.declared.finding.Finding.TheVariants.{GrowLength, Conflict}
use Rattle.rules.specs.declared.finding.Length.{Length}
use Rattle.rules.specs.declared.finding.Length.TheVariants.{NoLimit, Ahead, Behind}
use Rattle.rules.specs.declared.refusal.Refusal.{Refusal}
use Rattle.rules.specs.declared.instruction.CompactGrowState.{CompactGrowState}
use Rattle.rules.specs.declared.instruction.CompactGrowState.TheVariants.{Stay, Grow, Shrink}
use Rattle.rules.specs.declared.instruction.Instruction.{Instruction}
use Rattle.rules.specs.declared.instruction.Instruction.TheVariants.{FindObstacle, Grow as GrowBy}
use Rattle.rules.specs.declared.registers.VertexRegisters.{VertexRegisters}
use Rattle.promises.specs.Cycle.{shown, shadows_seen}
use Rattle.promises.specs.Ledger.{if_done, noted, of_instruction, ledger}
use Rattle.promises.specs.Trail.{Link, Chain, none as no_steps, more, step_calls, search_calls, apart, Same}
use Rattle.promises.proofs.Completed.{Completed}
use Rattle.promises.proofs.Within.{ahead_allows, Moves}
use Rattle.promises.proofs.Careful.{moves}
use Rattle.promises.proofs.Reached.{Sound, cycle_sound}
use Rattle.promises.proofs.Turns.{link_find, link_grow}
use Rattle.promises.proofs.Searches.{search_trail}

-- ---- a step that no vertex at Grow bounds is bounded by one that shrinks: no step is over 67,108,863

abbrev Slow : CompactGrowState → Type 0
Slow Stay = Unit {0}
Slow Grow = ⊥
Slow Shrink = Unit {0}

moves_slow : (s : CompactGrowState) (n a b : ℕ) → Moves s n a b → b < 67_108_864 → 67_108_863 < n → Slow s
unfolding Moves
moves_slow Stay n a b h l k = tt
moves_slow Grow n a b h l k = omega arith
moves_slow Shrink n a b h l k = tt

joint_slow : (s t : CompactGrowState) → Slow s → Slow t → joint s t ≡ 0
joint_slow Stay Stay p q = refl
joint_slow Stay Grow p q = absurd q
joint_slow Stay Shrink p q = refl
joint_slow Grow t p q = absurd p
joint_slow Shrink Stay p q = refl
joint_slow Shrink Grow p q = absurd q
joint_slow Shrink Shrink p q = refl

abbrev Small : Finding → Type 0
Small (GrowLength NoLimit) = Unit {0}
Small (GrowLength (Ahead n)) = n ≤ 67_108_863
Small (GrowLength (Behind n)) = Unit {0}
Small (Conflict a b) = Unit {0}

reduce_small : (p q : Finding) → Small p → Small q → Small (reduce p q)
reduce_small (Conflict a b) q h k = tt
reduce_small (GrowLength l) (Conflict a b) h k = tt
reduce_small (GrowLength NoLimit) (GrowLength l) h k = k
reduce_small (GrowLength (Ahead n)) (GrowLength NoLimit) h k = h
reduce_small (GrowLength (Ahead n)) (GrowLength (Ahead m)) h k = omega arith
reduce_small (GrowLength (Ahead n)) (GrowLength (Behind m)) h k = tt
reduce_small (GrowLength (Behind n)) (GrowLength NoLimit) h k = tt
reduce_small (GrowLength (Behind n)) (GrowLength (Ahead m)) h k = tt
reduce_small (GrowLength (Behind n)) (GrowLength (Behind m)) h k = tt

vertex_small : (rs : List ℕ) (v : ℕ) → Small (vertex_report (at rs v))
unfolding vertex_report
vertex_small rs v =
    by_test (λ (l : Length). Small (GrowLength l)) (shrinking (at rs v).speed) (λ t. omega (arith, (at_in_range rs v).grown)) (λ t. tt)

respond_small : (a b : VertexRegisters) (v w : ℕ) (l : Length) → Slow a.speed → Slow b.speed → Small (reported (respond a b v w l))
unfolding respond pick
respond_small a b v w l p q =
    let e : (same_node a.node b.node or eqb (joint a.speed b.speed) 0) ≡ true = or_true _ _ (eq-eqb _ 0 (joint_slow a.speed b.speed p q)) in
    rw e tt

finding_small : (es fs ys ss : List ℕ) (ne nv : ℕ) → ((v : ℕ) → Slow (at ss v).speed) → Small (finding es fs ys ss ne nv)
unfolding finding vertex_finding edge_response
finding_small es fs ys ss ne nv slow =
    up_to_keeps _ _ Small
    (up_to_keeps _ _ Small tt (λ v f h. reduce_small f (vertex_report (at ys v)) h (vertex_small ys v)) nv)
    (λ e f h. reduce_small f (reported (edge_response es fs ys ss e)) h
    (respond_small (at ss (left_of es e)) (at ss (right_of es e)) (left_of es e) (right_of es e) (remaining es fs ys e) (slow (left_of es e)) (slow (right_of es e)))) ne

module _ (g : Graph) (s m t : State) (k n : ℕ) (h : Finding) (sound : Sound g s.registers) (some : 1 ≤ n) (within : n ≤ k)
    (find : Completed (in_use g) s FindObstacle m (GrowLength (Ahead k))) (grow : Completed (in_use g) m (GrowBy n) t h) where
  bounded_by : (b : Bool) → leb n 67_108_863 ≡ b → n ≤ 67_108_863
  bounded_by true e = leb-true n 67_108_863 e
  bounded_by false e =
      let l : 67_108_863 < n = leb-false n 67_108_863 e in
      let slow : (v : ℕ) → Slow (shown (in_use g) s v).speed =
      λ v. moves_slow (shown (in_use g) s v).speed n _ (at t.registers v).grown (moves g s m t (GrowLength (Ahead k)) h n sound some (ahead_allows n k within) find grow v) (at_in_range t.registers v).grown l
      in
      let small : Small (GrowLength (Ahead k)) = subst Small (sym find.found) (finding_small _ _ _ (shadows_seen (in_use g) s FindObstacle) (in_use g).ne (in_use g).nv slow) in
      omega arith

  pub step_bounded : n ≤ 67_108_863
  step_bounded = bounded_by (leb n 67_108_863) refl

-- ---- the maximum changes no cycle

abbrev limited : ℕ → Cycle → Cycle
limited m c = record { state = with_maximum m c.state; answer = c.answer }

module _ (g : Graph) (m : ℕ) (s : State) where
  pick_limited : (b : Bool) (c d : Cycle) → pick b (limited m c) (limited m d) ≡ limited m (pick b c d)
  unfolding pick
  pick_limited true c d = refl
  pick_limited false c d = refl

  carried_limited : (xs : List ℕ) (o : Option Refusal) → carried g (with_maximum m s) xs o ≡ limited m (carried g s xs o)
  unfolding settled concluded
  carried_limited xs none = pick_limited _ _ _
  carried_limited xs (some r) = refl

  pub step_limited : (i : Instruction) → step g (with_maximum m s) i ≡ limited m (step g s i)
  unfolding step
  step_limited i =
      carried_limited (executed g.vertices s.registers (vertices_stalled g s) i g.nv) (execute_refusal g.vertices s.registers (vertices_stalled g s) i g.nv)

-- ---- calls one after the other

module _ (g : Graph) where
  pub run_then : (s : State) (cs ds : List Call) → run g s (cs ++ ds) ≡ run g (run g s cs) ds
  unfolding run
  run_then s [] ds = refl
  run_then s (c ∷ cs) ds = run_then (call g s c).state cs ds

  pub ledger_then : (s : State) (es : List GrowthStep) (cs ds : List Call) → ledger g s es (cs ++ ds) ≡ ledger g (run g s cs) (ledger g s es cs) ds
  unfolding run ledger
  ledger_then s es [] ds = refl
  ledger_then s es (c ∷ cs) ds = ledger_then (call g s c).state (noted g s es c) cs ds

-- a FindObstacle is no growth step, however it is answered
nothing_done : (a : Answer) → if_done [] a ≡ []
nothing_done (Ok f) = refl
nothing_done (Err r) = refl

find_noted : (g : Graph) (s : State) (es : List GrowthStep) → noted g s es (execute FindObstacle) ≡ es
unfolding noted of_instruction
find_noted g s es = ap (λ (xs : List GrowthStep). xs ++ es) (nothing_done (instruct g s FindObstacle).answer)

-- ---- a search as the calls that it stands for

module _ (g : Graph) where
  -- a Grow within bounds that is sent is the cycle itself
  sent : (s : State) (n : ℕ) → n ≤ 67_108_863 → instruct g s (GrowBy n) ≡ step (in_use g) s (GrowBy n)
  unfolding instruct barred in_bounds pick
  sent s n l = rw (le-leb n 67_108_863 l)

  asked : (s : State) → instruct g s FindObstacle ≡ step (in_use g) s FindObstacle
  unfolding instruct barred in_bounds pick
  asked s = refl

  module _ {s u : State} {e : GrowthStep} (sound : Sound g s.registers) (l : Link (in_use g) s e u) where
    link_bounded : e.length ≤ 67_108_863
    link_bounded = step_bounded g s e.before l.after l.limit e.length l.told sound l.some (omega (arith, l.clamped)) (link_find (in_use g) l) (link_grow (in_use g) l)

    link_sound : Sound g u.registers
    link_sound =
        rw l.lowered
        (cycle_sound g e.before l.after _ l.told tt (cycle_sound g s e.before _ _ tt sound (link_find (in_use g) l)) (link_grow (in_use g) l))

  module _ (r : State) {s u : State} {e : GrowthStep} (sound : Sound g s.registers) (same : s ≡ with_maximum s.maximum r) (l : Link (in_use g) s e u) where
    -- the finding and the Grow from r, whose maximum may be another
    found_limited : limited s.maximum (step (in_use g) r FindObstacle) ≡ record { state = e.before; answer = Ok (GrowLength (Ahead l.limit)) }
    found_limited = sym (step_limited (in_use g) s.maximum r FindObstacle) ∙ ap (λ (x : State). step (in_use g) x FindObstacle) (sym same) ∙ l.found

    abbrev middle : State
    middle = (step (in_use g) r FindObstacle).state

    before_is : e.before ≡ with_maximum s.maximum middle
    before_is = sym (ap (λ (c : Cycle). c.state) found_limited)

    grown_limited : limited s.maximum (step (in_use g) middle (GrowBy e.length)) ≡ record { state = l.after; answer = Ok l.told }
    grown_limited =
        sym (step_limited (in_use g) s.maximum middle (GrowBy e.length))
        ∙ ap (λ (x : State). step (in_use g) x (GrowBy e.length)) (sym before_is) ∙ l.grew

    abbrev pair : List Call
    pair = execute FindObstacle ∷ execute (GrowBy e.length) ∷ []

    pair_run : run g r pair ≡ (step (in_use g) middle (GrowBy e.length)).state
    unfolding run call
    pair_run =
        ap (λ (c : Cycle). (instruct g c.state (GrowBy e.length)).state) (asked r)
        ∙ ap (λ (c : Cycle). c.state) (sent middle e.length (link_bounded sound l))

    grow_noted : (es : List GrowthStep)
        → noted g (instruct g r FindObstacle).state es (execute (GrowBy e.length)) ≡ record { before = middle; length = e.length } ∷ es
    unfolding noted of_instruction
    grow_noted es =
        rw (asked r, sent middle e.length (link_bounded sound l), ap (λ (c : Cycle). c.answer) grown_limited)

    pair_ledger : (es : List GrowthStep) → ledger g r es pair ≡ record { before = middle; length = e.length } ∷ es
    unfolding ledger call
    pair_ledger es =
        ap (λ (xs : List GrowthStep). noted g (instruct g r FindObstacle).state xs (execute (GrowBy e.length))) (find_noted g r es) ∙ grow_noted es

    link_state : u ≡ with_maximum u.maximum (run g r pair)
    link_state =
        rw pair_run
        (ap (λ (x : State). with_maximum u.maximum x) l.lowered
        ∙ ap (λ (x : State). with_maximum u.maximum x) (sym (ap (λ (c : Cycle). c.state) grown_limited)))

  module _ {s : State} (sound : Sound g s.registers) where
    pub chain_sound : {es : List GrowthStep} {u : State} → Chain (in_use g) s es u → Sound g u.registers
    chain_sound no_steps = sound
    chain_sound (more c l) = link_sound (chain_sound c) l

    pub chain_same : {es : List GrowthStep} {u : State} → Chain (in_use g) s es u → Same g s es (step_calls es) u
    unfolding run ledger
    chain_same no_steps = record { state = refl; steps = refl }
    chain_same (more {e} {es} {t} {u} c l) =
        let before = chain_same c in
        let r = run g s (step_calls es) in
        record {
          state = rw (run_then g s (step_calls es)) (link_state r (chain_sound c) before.state l);
          steps =
              ap (map apart) (ledger_then g s [] (step_calls es) _ ∙ pair_ledger r (chain_sound c) before.state l (ledger g s [] (step_calls es)))
              ∙ ap (λ (x : State). record { before = with_maximum 0 x; length = e.length } ∷ map apart (ledger g s [] (step_calls es))) (sym (before_is r (chain_sound c) before.state l))
              ∙ ap (λ (xs : List GrowthStep). apart e ∷ xs) before.steps;
        }

    -- one finding more
    module _ {es : List GrowthStep} {t : State} (cs : List Call) (same : Same g s es cs t) where
      abbrev after : State
      after = (step (in_use g) t FindObstacle).state

      find_run : run g s (cs ++ execute FindObstacle ∷ []) ≡ (step (in_use g) (run g s cs) FindObstacle).state
      unfolding run call
      find_run = run_then g s cs _ ∙ ap (λ (c : Cycle). c.state) (asked (run g s cs))

      pub find_same : Same g s es (cs ++ execute FindObstacle ∷ []) after
      unfolding ledger
      find_same = record {
        state =
            rw find_run
            (ap (λ (x : State). with_maximum after.maximum x)
            (ap (λ (x : State). (step (in_use g) x FindObstacle).state) same.state ∙ ap (λ (c : Cycle). c.state) (step_limited (in_use g) t.maximum (run g s cs) FindObstacle)));
        steps = ap (map apart) (ledger_then g s [] cs _ ∙ find_noted g (run g s cs) (ledger g s [] cs)) ∙ same.steps;
      }

  -- so a search is the run of the calls that its steps stand for
  pub search_same : (s : State) → Sound g s.registers → Same g s (search g s).walk.trail (search_calls (search g s).walk.trail) (search g s).walk.state
  search_same s sound =
      let t = search_trail g s in
      rw t.leaves (find_same sound _ (chain_same sound t.chain))
