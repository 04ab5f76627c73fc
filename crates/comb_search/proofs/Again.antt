-- A step that leaves the registers as they were is repeated by every later step of its length: a cycle that is completed does not look at the
-- flags, and a length that was not cut short by the maximum is found again while that much of it is left.
use Rattle.std.specs.Prelude.{ℕ, zero, suc, ◌+◌, ◌-◌, ◌*◌, ◌<◌, ◌≤◌, min, ◌≡◌, Bool, true, false, List, Result, Ok, Err}
use Rattle.std.proofs.Common.{refl, sym, ap, subst, ◌∙◌, arith}
use Rattle.std.proofs.Math.Option.{Option, none, some}
use native.Mathlib.Nat.{zero-mul, suc-mul}
use Rattle.laws.specs.Choice.{pick}
use Rattle.rules.specs.State.{with_maximum}
use Rattle.rules.specs.Execute.{executed, execute_refusal}
use Rattle.rules.specs.Instruct.{vertices_stalled, refused, concluded, settled, carried, step}
use Rattle.rules.specs.Search.{begun, grow_by, after_grow, after_finding, turn}
use Rattle.rules.specs.declared.graph.Graph.{Graph}
use Rattle.rules.specs.declared.state.Cycle.{Cycle}
use Rattle.rules.specs.declared.state.Searched.{Searched}
use Rattle.rules.specs.declared.state.State.{State}
use Rattle.rules.specs.declared.finding.Length.TheVariants.{NoLimit, Ahead, Behind}
use Rattle.rules.specs.declared.finding.Finding.TheVariants.{GrowLength, Conflict}
use Rattle.rules.specs.Types.{Answer}
use Rattle.rules.specs.declared.instruction.Instruction.{Instruction}
use Rattle.rules.specs.declared.instruction.Instruction.TheVariants.{FindObstacle, Grow}
use Rattle.rules.specs.declared.refusal.Refusal.{Refusal}
use Rattle.rules.specs.declared.refusal.Refusal.TheVariants.{OddRemaining}
use Rattle.comb_cycle.specs.Cycled.{kept_in, step_cycled, weights_stay, maximum_stays}
use Rattle.comb_search.specs.Repeats.{Repeats, RepeatsTurn}
use Rattle.comb_search.specs.Turn.{Took, took, once}
use Rattle.comb_search.specs.declared.turn.Turn.{Turn}
use Rattle.comb_search.specs.declared.turn.Turn.TheVariants.{Found, Grew}
use Rattle.comb_search.proofs.Seeks.{Seeking, grew_some, grew_most, stepped}

-- ---- a cycle that is completed does not look at the flags

abbrev Completed : Answer → Type 0
Completed (Ok f) = Unit {0}
Completed (Err r) = ⊥

-- s with other flags and another maximum
abbrev other : State → List Bool → ℕ → State
other s flags m = record { registers = s.registers; weights = s.weights; stalled = flags; maximum = m }

module _ (g : Graph) (s : State) (flags : List Bool) where
  abbrev flagged : State
  flagged = other s flags s.maximum

  by_odd : (b : Bool) (c : Cycle) → Completed (pick b (refused s OddRemaining) c).answer → pick b (refused flagged OddRemaining) c ≡ pick b (refused s OddRemaining) c
  unfolding pick
  by_odd true c h = absurd h
  by_odd false c h = refl

  by_refusal : (xs : List ℕ) (o : Option Refusal) → Completed (carried g s xs o).answer → carried g flagged xs o ≡ carried g s xs o
  unfolding settled concluded
  by_refusal xs none h = by_odd _ _ h
  by_refusal xs (some r) h = absurd h

  flags_free : (i : Instruction) → Completed (step g s i).answer → step g flagged i ≡ step g s i
  unfolding step
  flags_free i h = by_refusal (executed g.vertices s.registers (vertices_stalled g s) i g.nv) (execute_refusal g.vertices s.registers (vertices_stalled g s) i g.nv) h

  other_step : (m : ℕ) (i : Instruction) → Completed (step g s i).answer → step g (other s flags m) i ≡ kept_in (step g s i) s.weights m
  other_step m i h = step_cycled g flagged m i ∙ ap (λ (c : Cycle). kept_in c s.weights m) (flags_free i h)

-- ---- a turn that grew, with other flags and so much left that the length is found again

abbrev Grows : ℕ → Result Turn Refusal → Type 0
Grows n (Ok (Found f)) = ⊥
Grows n (Ok (Grew k m)) = k ≡ n
Grows n (Err r) = ⊥

module _ (g : Graph) (m n : ℕ) (some_left : n ≤ m) where
  -- the same turn, which leaves so much less of m
  abbrev lowered : Took → Took
  lowered t = record { state = with_maximum (m - n) t.state; turn = t.turn }

  grown_again : (s u : State) (k : ℕ) (a : Answer) → Grows n (took (after_grow (begun s) k u a)).turn
      → took (after_grow (begun (with_maximum m s)) k (with_maximum m u) a) ≡ lowered (took (after_grow (begun s) k u a))
  grown_again s u k (Ok f) h = let z : k ≡ n = omega arith in rw z
  grown_again s u k (Err r) h = absurd h

  grown_so : (s u : State) (k : ℕ) (a : Answer) → Grows n (took (after_grow (begun s) k u a)).turn → k ≡ n
  grown_so s u k (Ok f) h = omega arith
  grown_so s u k (Err r) h = absurd h

  length_so : (s : State) (k : ℕ) → Grows n (took (grow_by g (begun s) k)).turn → k ≡ n
  unfolding grow_by
  length_so s zero h = absurd h
  length_so s (suc k) h = let d = step g s (Grow (suc k)) in grown_so s d.state (suc k) d.answer h

  length_again : (s : State) (k : ℕ) → Grows n (took (grow_by g (begun s) k)).turn
      → took (grow_by g (begun (with_maximum m s)) k) ≡ lowered (took (grow_by g (begun s) k))
  unfolding grow_by
  length_again s zero h = absurd h
  length_again s (suc k) h =
      let d = step g s (Grow (suc k)) in
      let e : step g (with_maximum m s) (Grow (suc k)) ≡ record { state = with_maximum m d.state; answer = d.answer } = step_cycled g s m (Grow (suc k)) ∙ rw (weights_stay g s (Grow (suc k))) in
      ap (λ (c : Cycle). took (after_grow (begun (with_maximum m s)) (suc k) c.state c.answer)) e ∙ grown_again s d.state (suc k) d.answer h

  finding_again : (s : State) (a : Answer) → m < s.maximum → Grows n (took (after_finding g (begun s) a)).turn
      → took (after_finding g (begun (with_maximum m s)) a) ≡ lowered (took (after_finding g (begun s) a))
  unfolding after_finding
  finding_again s (Err r) l h = absurd h
  finding_again s (Ok (Conflict a b)) l h = absurd h
  finding_again s (Ok (GrowLength NoLimit)) l h = absurd h
  finding_again s (Ok (GrowLength (Behind k))) l h = absurd h
  finding_again s (Ok (GrowLength (Ahead k))) l h =
      let e : min k s.maximum ≡ n = length_so s (min k s.maximum) h in
      let f : min k m ≡ min k s.maximum = omega arith in
      ap (λ (j : ℕ). took (grow_by g (begun (with_maximum m s)) j)) f ∙ length_again s (min k s.maximum) h

  completes : (s : State) (a : Answer) → Grows n (took (after_finding g (begun s) a)).turn → Completed a
  unfolding after_finding
  completes s (Err r) h = h
  completes s (Ok f) h = tt

-- ---- from the state that such a turn left, if its registers are those it began with

module _ (g : Graph) (ws : List ℕ) where
  grown_weights : (s u : State) (k : ℕ) (a : Answer) → s.weights ≡ ws → u.weights ≡ ws → (took (after_grow (begun s) k u a)).state.weights ≡ ws
  grown_weights s u k (Ok f) p q = q
  grown_weights s u k (Err r) p q = p

  grows_weights : (s : State) (k : ℕ) → s.weights ≡ ws → (took (grow_by g (begun s) k)).state.weights ≡ ws
  unfolding grow_by
  grows_weights s zero p = p
  grows_weights s (suc k) p = let d = step g s (Grow (suc k)) in grown_weights s d.state (suc k) d.answer p (weights_stay g s (Grow (suc k)) ∙ p)

  finding_weights : (s : State) (a : Answer) → s.weights ≡ ws → (took (after_finding g (begun s) a)).state.weights ≡ ws
  unfolding after_finding
  finding_weights s (Err r) p = p
  finding_weights s (Ok (Conflict a b)) p = p
  finding_weights s (Ok (GrowLength NoLimit)) p = p
  finding_weights s (Ok (GrowLength (Behind k))) p = p
  finding_weights s (Ok (GrowLength (Ahead k))) p = grows_weights s (min k s.maximum) p

module _ (g : Graph) (all : Searched) (t : State) where
  pub counted : {m m' r r' s s' : ℕ} → m ≡ m' → r ≡ r' → s ≡ s' → Seeking g all (with_maximum m t) r s → Seeking g all (with_maximum m' t) r' s'
  counted a b c p = rw (← a, ← b, ← c) p

module _ (g : Graph) (s t : State) (n : ℕ) (e : record { state = t; turn = Ok (Grew n 0) } ≡ took (turn g (begun s))) (z : s.registers ≡ t.registers) where
  abbrev found : Cycle
  found = step g s FindObstacle

  is : record { state = t; turn = Ok (Grew n 0) } ≡ took (after_finding g (begun found.state) found.answer)
  unfolding turn
  is = e

  same : (m : ℕ) → with_maximum m t ≡ other s t.stalled m
  same m =
      let w : t.weights ≡ s.weights = ap (λ (x : Took). x.state.weights) is ∙ finding_weights g s.weights found.state found.answer (weights_stay g s FindObstacle) in
      rw (w, z)

  found_again : (m : ℕ) → Completed found.answer → step g (with_maximum m t) FindObstacle ≡ record { state = with_maximum m found.state; answer = found.answer }
  found_again m h =
      ap (λ (u : State). step g u FindObstacle) (same m)
      ∙ other_step g s t.stalled m FindObstacle h
      ∙ ap (λ (ws : List ℕ). kept_in found ws m) (sym (weights_stay g s FindObstacle))

  still : (m : ℕ) → n ≤ m → m < s.maximum → record { state = with_maximum (m - n) t; turn = Ok (Grew n 0) } ≡ took (turn g (begun (with_maximum m t)))
  unfolding turn
  still m h l =
      let grows : Grows n (took (after_finding g (begun found.state) found.answer)).turn = subst (Grows n) (ap (λ (x : Took). x.turn) is) refl in
      let once = found_again m (completes g m n h found.state found.answer grows) in
      let less : m < found.state.maximum = omega (arith, maximum_stays g s FindObstacle) in
      ap (lowered g m n h) is
      ∙ sym (finding_again g m n h found.state found.answer less grows)
      ∙ sym (ap (λ (c : Cycle). took (after_finding g (begun c.state) c.answer)) once)

  -- k more such turns
  module _ (all : Searched) where
    repeated : (k m growth steps : ℕ) → m < s.maximum → k * n ≤ m → Seeking g all (with_maximum m t) growth steps
        → Seeking g all (with_maximum (m - k * n) t) (growth + k * n) (steps + k)
    repeated zero m growth steps l h p = counted g all t (omega (arith, zero-mul n)) (omega (arith, zero-mul n)) (omega arith) p
    repeated (suc k) m growth steps l h p =
        let j : suc k * n ≡ k * n + n = suc-mul k n in
        let some : n ≤ m = omega arith in
        let on = stepped g all (with_maximum m t) (with_maximum (m - n) t) growth steps p (Ok (Grew n 0)) (still m some l) n 0 refl in
        counted g all t (omega arith) (omega arith) (omega arith) (repeated k (m - n) (growth + n) (steps + 1) (omega arith) (omega arith) on)

-- ---- a turn of the loop: one step, and those that repeat it

-- what a step of length n leaves of m covers k more, which are at most as many as they grow by
pub record Covers (m left n k : ℕ) : Type 0 where
  pub some : 1 ≤ n
  pub falls : left + n ≡ m
  pub fits : k * n ≤ left
  pub few : k ≤ k * n

times : (k n : ℕ) → 1 ≤ n → k ≤ k * n
times zero n o = omega arith
times (suc k) n o = omega (arith, suc-mul k n, times k n o)

module _ (g : Graph) (s t : State) (r : Result Turn Refusal) (e : record { state = t; turn = once r } ≡ took (turn g (begun s))) (n k : ℕ) (q : r ≡ Ok (Grew n k))
    (h : RepeatsTurn s t r) where
  repeats : Repeats s.registers t.registers t.maximum n k
  repeats = rw q at h

  alone : record { state = t; turn = Ok (Grew n 0) } ≡ took (turn g (begun s))
  alone = rw q at e

  pub covers : Covers s.maximum t.maximum n k
  covers =
      let o : 1 ≤ n = grew_some g s t (Ok (Grew n 0)) alone n 0 refl in
      record { some = o; falls = grew_most g s t (Ok (Grew n 0)) alone n 0 refl; fits = repeats.fits; few = times k n o }

  module _ (all : Searched) (growth steps : ℕ) (p : Seeking g all s growth steps) where
    leaps_by : (j : ℕ) → j ≡ k → Seeking g all (with_maximum (t.maximum - j * n) t) (growth + (n + j * n)) (steps + (1 + j))
    leaps_by zero i = counted g all t (omega (arith, zero-mul n)) (omega (arith, zero-mul n)) (omega arith) (stepped g all s t growth steps p r e n k q)
    leaps_by (suc j) i =
        let z : s.registers ≡ t.registers = repeats.still (omega arith) in
        let fits : suc j * n ≤ t.maximum = rw i repeats.fits in
        counted g all t refl (omega arith) (omega arith)
        (repeated g s t n alone z all (suc j) t.maximum (growth + n) (steps + 1) (omega (arith, covers)) fits (stepped g all s t growth steps p r e n k q))

    pub leaps : Seeking g all (with_maximum (t.maximum - k * n) t) (growth + (n + k * n)) (steps + (1 + k))
    leaps = leaps_by k refl
