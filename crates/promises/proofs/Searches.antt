-- What a search reports, what its steps are, and that it ends: each step grows by its length and lowers the maximum by as much, and each turn
-- that goes on has lowered it.
use Prim.Native.Nat.{ℕ, zero, suc, ◌+◌, ◌<◌, ◌≤◌, min}
use mathlib.Core.Path.{◌≡◌, refl, sym, ap, ◌∙◌, subst}
use mathlib.Core.Bool.{Bool, true}
use mathlib.Core.List.{List}
use mathlib.Core.Option.{Option, none, some}
use native.Mathlib.Nat.{not-suc-le-zero}
use native.Mathlib.Omega.{arith}
use borrow.Author.Tests.{ltb-true}
use lib.Dec.{ltb}
use lib.ListN.{length}
use Rattle.laws.specs.Choice.{by_test}
use Rattle.laws.specs.First.{first_has}
use Rattle.rules.specs.Graph.{in_use}
use Rattle.rules.specs.Registers.{at, shrinking}
use Rattle.rules.specs.Execute.{execute, execute_at, execute_refusal, moved, refusal_of, still}
use Rattle.rules.specs.Instruct.{vertices_stalled, step}
use Rattle.rules.specs.Search.{Walk, Ended, Turned, stops, goes, next, begun, turn, walked, search}
use Rattle.rules.specs.declared.graph.Graph.{Graph}
use Rattle.rules.specs.declared.state.State.{State}
use Rattle.rules.specs.declared.finding.Length.TheVariants.{NoLimit, Ahead, Behind}
use Rattle.rules.specs.declared.finding.Finding.TheVariants.{GrowLength, Conflict}
use Rattle.rules.specs.Types.{Answer, Executed}
use Rattle.std.specs.Prelude.{Err, Ok}
use Rattle.rules.specs.declared.instruction.CompactGrowState.{CompactGrowState}
use Rattle.rules.specs.declared.instruction.CompactGrowState.TheVariants.{Stay, Grow, Shrink}
use Rattle.rules.specs.declared.instruction.Instruction.{Instruction}
use Rattle.rules.specs.declared.instruction.Instruction.TheVariants.{FindObstacle, Grow as GrowBy}
use Rattle.rules.specs.declared.refusal.Refusal.{Refusal}
use Rattle.rules.specs.declared.refusal.Refusal.TheVariants as R
use Rattle.rules.specs.declared.registers.VertexRegisters.{VertexRegisters}
use Rattle.promises.specs.Ledger.{sum}
use Rattle.promises.specs.Trail.{Chain, none as no_steps, more, Halts, at_zero, refused, Concludes, IsTrail}
use Rattle.promises.proofs.Completed.{Told, Refuses, by_execute, by_odd, step_tells}
use Rattle.promises.proofs.Within.{ahead_allows, shrinks_allow}
use Rattle.promises.proofs.Turns.{Stopped, Stepped, Turns, step_maximum, link_lower, link_maximum, turn_turns, search_keeps}

-- ---- what a search counts

module _ (g : Graph) where
  -- what a walk from a state with maximum m has so far
  pub record Counts (m : ℕ) (c : Walk) : Type 0 where
    pub growth : c.growth ≡ sum c.trail
    pub steps : c.steps ≡ length c.trail
    pub left : c.growth + c.state.maximum ≡ m

  stop_counts : (m : ℕ) (c : Walk) (a : Ended) → Counts m c → Stopped (in_use g) c a → Counts m a.walk
  stop_counts m c a p h = record {
    growth = rw h.trail (h.growth ∙ p.growth);
    steps = rw h.trail (h.steps ∙ p.steps);
    left = omega (arith, h.growth, p.left, ap (λ (x : State). x.maximum) h.leaves, step_maximum (in_use g) c.state FindObstacle);
  }

  step_counts : (m : ℕ) (c d : Walk) → Counts m c → Stepped (in_use g) c d → Counts m d
  unfolding sum
  step_counts m c d p h = record {
    growth = rw h.trail (h.growth ∙ ap (λ (n : ℕ). n + h.entry.length) p.growth);
    steps = rw h.trail (omega (arith, h.steps, p.steps));
    left = omega (arith, h.growth, p.left, link_maximum (in_use g) h.link);
  }

  -- the growth is the sum of the steps, the steps are counted, and the growth is the maximum begun with less the maximum left
  pub search_counts : (s : State) → Counts s.maximum (search g s).walk
  unfolding sum
  search_counts s =
      search_keeps g (Counts s.maximum) (λ a. Counts s.maximum a.walk) (stop_counts s.maximum) (step_counts s.maximum) s
      (record { growth = refl; steps = refl; left = omega arith })

  -- ---- its steps are the search

  pub search_trail : (s : State) → IsTrail (in_use g) s (search g s)
  search_trail s =
      search_keeps g (λ c. Chain (in_use g) s c.trail c.state) (IsTrail (in_use g) s)
      (λ c a p h. record { last = c.state; chain = rw h.trail p; leaves = h.leaves; answers = h.answers })
      (λ c d p h. rw h.trail (more p h.link)) s no_steps

-- ---- 14 does not arise

abbrev NotBelow : Option Refusal → Type 0
NotBelow o = o ≡ some R.BelowZero → ⊥

none_not_below : NotBelow none
none_not_below e = let z : ◌≡◌ {A = ℕ} 0 1 = cc in omega arith

above_not_below : NotBelow (some R.AboveBound)
above_not_below e = let z : ◌≡◌ {A = ℕ} 0 1 = cc in omega arith

moved_not_below : (s : CompactGrowState) (n : ℕ) (x : VertexRegisters) → (shrinking s ≡ true → n ≤ x.grown) → NotBelow (refusal_of (moved s n x))
unfolding moved
moved_not_below Stay n x h = none_not_below
moved_not_below Grow n x h = by_test (λ (e : Executed). NotBelow (refusal_of e)) (ltb 67_108_863 (x.grown + n)) (λ t. above_not_below) (λ t. none_not_below)
moved_not_below Shrink n x h =
    by_test (λ (e : Executed). NotBelow (refusal_of e)) (ltb x.grown n) (λ t e. omega (arith, h refl, ltb-true x.grown n t)) (λ t. none_not_below)

grow_not_below : (vs rs : List ℕ) (stalled : List Bool) (n nv : ℕ) → ((v : ℕ) → v < nv → shrinking (at rs v).speed ≡ true → n ≤ (at rs v).grown)
    → NotBelow (execute_refusal vs rs stalled (GrowBy n) nv)
unfolding execute_refusal execute_at execute
grow_not_below vs rs stalled n nv h =
    first_has NotBelow none_not_below nv _
    (λ v l. by_test (λ (e : Executed). NotBelow (refusal_of e)) (still vs rs stalled (GrowBy n) v) (λ t. none_not_below)
    (λ t. moved_not_below (at rs v).speed n (at rs v) (h v l)))

find_not_refused : (vs rs : List ℕ) (stalled : List Bool) (nv : ℕ) → execute_refusal vs rs stalled FindObstacle nv ≡ none
unfolding execute_refusal execute_at execute
find_not_refused vs rs stalled nv = first_has (λ (o : Option Refusal). o ≡ none) refl nv _ (λ v l. refl)

module _ (g : Graph) where
  abbrev Above : Answer → Type 0
  Above a = a ≡ Err R.BelowZero → ⊥

  refused_above : (s : State) (i : Instruction) (r : Refusal) → Refuses g s i r
      → NotBelow (execute_refusal g.vertices s.registers (vertices_stalled g s) i g.nv) → Above (Err r)
  refused_above s i r (by_execute e) h q = h (cc)
  refused_above s i r (by_odd e) h q = let z : ◌≡◌ {A = ℕ} 0 1 = cc in omega arith

  halts_above : (m : State) (k : ℕ) (a : Answer) → NotBelow (execute_refusal g.vertices m.registers (vertices_stalled g m) (GrowBy k) g.nv)
      → Halts g m k a → Above a
  halts_above m k a h (at_zero e) q = let z : ◌≡◌ {A = ℕ} 0 1 = cc in omega arith
  halts_above m k a h (refused {r} e) q =
      refused_above m (GrowBy k) r (subst (λ (x : Answer). Told g m (GrowBy k) (step g m (GrowBy k)).state x) e (step_tells g m (GrowBy k))).1 h q

  concludes_above : (s m : State) (x a : Answer) → Told g s FindObstacle m x → Concludes g m x a → Above a
  concludes_above s m (Err r) a w e q =
      refused_above s FindObstacle r w.1
      (λ o. none_not_below (sym (find_not_refused g.vertices s.registers (vertices_stalled g s) g.nv) ∙ o)) (sym e ∙ q)
  concludes_above s m (Ok (Conflict b c)) a w e q = let z : ◌≡◌ {A = ℕ} 0 1 = cc in omega arith
  concludes_above s m (Ok (GrowLength NoLimit)) a w e q = let z : ◌≡◌ {A = ℕ} 0 1 = cc in omega arith
  concludes_above s m (Ok (GrowLength (Behind n))) a w e q = let z : ◌≡◌ {A = ℕ} 0 1 = cc in omega arith
  concludes_above s m (Ok (GrowLength (Ahead n))) a w e q =
      let k = min n m.maximum in
      let allows = ahead_allows k n (omega arith) in
      halts_above m k a
      (grow_not_below g.vertices m.registers (vertices_stalled g m) k g.nv
      (λ v l t. rw w.registers (shrinks_allow _ _ _ _ _ g.nv k (rw w.found at allows) v l (rw w.registers at t)))) e q

pub search_not_below : (g : Graph) (s : State) → (search g s).answer ≡ Err R.BelowZero → ⊥
search_not_below g s =
    search_keeps g (λ c. Unit {0}) (λ a. a.answer ≡ Err R.BelowZero → ⊥)
    (λ c a p h.
    let found = step (in_use g) c.state FindObstacle in
    concludes_above (in_use g) c.state found.state found.answer a.answer (step_tells (in_use g) c.state FindObstacle) h.answers) (λ c d p h. tt) s tt

-- ---- a search ends within maximum + 1 findings: more turns than that are never made

module _ (g : Graph) where
  abbrev Lower : ℕ → Turned → Type 0
  Lower b (stops a) = Unit {0}
  Lower b (goes d) = d.state.maximum < b

  turns_lower : (c : Walk) (t : Turned) → Turns g c t → Lower c.state.maximum t
  turns_lower c (stops a) h = tt
  turns_lower c (goes d) h = link_lower g h.link

  next_same : (b : ℕ) (j k : Walk → Ended) → ((d : Walk) → d.state.maximum < b → j d ≡ k d) → (t : Turned) → Lower b t → next j t ≡ next k t
  next_same b j k h (stops a) l = refl
  next_same b j k h (goes d) l = h d l

  pub walked_same : (n m : ℕ) (c : Walk) → c.state.maximum < n → c.state.maximum < m → walked g n c ≡ walked g m c
  unfolding walked
  walked_same zero m c l k = absurd (not-suc-le-zero l)
  walked_same (suc n) zero c l k = absurd (not-suc-le-zero k)
  walked_same (suc n) (suc m) c l k =
      next_same c.state.maximum (λ d. walked g n d) (λ d. walked g m d) (λ d q. walked_same n m d (omega arith) (omega arith)) (turn g c) (turns_lower c (turn g c) (turn_turns g c))

pub search_ends : (g : Graph) (s : State) (n : ℕ) → s.maximum < n → walked (in_use g) n (begun s) ≡ search g s
unfolding search
search_ends g s n l = walked_same (in_use g) n (suc s.maximum) (begun s) l (omega arith)
