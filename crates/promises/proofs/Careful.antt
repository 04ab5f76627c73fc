-- No step of a search takes anything below zero: a finding and the Grow after it see the same stalls, so each vertex moves by the speed its
-- shadow showed, and the finding left room for that.
use Prim.Native.Nat.{ℕ, ◌<◌, ◌≤◌}
use mathlib.Core.Path.{◌≡◌, refl, sym, ap, ◌∙◌}
use mathlib.Core.Bool.{Bool, true, false}
use mathlib.Core.List.{List, [], ◌∷◌, ◌++◌, append-nil}
use native.Mathlib.Omega.{arith}
use borrow.Author.Tests.{ltb-true, ltb-false}
use lib.Dec.{ltb}
use lib.ListN.{length, get_or}
use Rattle.laws.specs.Choice.{◌or◌, pick, by_test}
use Rattle.rules.specs.Graph.{in_use, left_of, right_of}
use Rattle.rules.specs.Registers.{view, speed_of, at, same_node}
use Rattle.rules.specs.Execute.{execute, execute_at, still, waits, done_or, refusal_of, moved}
use Rattle.rules.specs.Respond.{remaining}
use Rattle.rules.specs.Instruct.{weights_fetched, vertices_stalled}
use Rattle.rules.specs.State.{with_maximum}
use Rattle.rules.specs.Run as Run
use Rattle.rules.specs.Run.{Call, word, clear, seek, seek_on, look, call}
use Rattle.rules.specs.declared.graph.Graph.{Graph}
use Rattle.rules.specs.declared.state.State.{State}
use Rattle.rules.specs.declared.finding.Finding.{Finding}
use Rattle.rules.specs.declared.finding.Finding.TheVariants.{GrowLength}
use Rattle.rules.specs.declared.finding.Length.TheVariants.{Ahead}
use Rattle.rules.specs.declared.instruction.Instruction.TheVariants.{FindObstacle, Grow as GrowBy}
use Rattle.rules.specs.declared.registers.VertexRegisters.{VertexRegisters}
use Rattle.rules.specs.declared.instruction.CompactGrowState.{CompactGrowState}
use Rattle.rules.specs.declared.instruction.CompactGrowState.TheVariants.{Stay, Grow, Shrink}
use Rattle.rules.specs.Types.{Executed}
use Rattle.std.specs.Prelude.{Ok}
use Rattle.promises.proofs.Stages.{executed_has, shadows_has, executed_at, shadows_at, shadow_at}
use Rattle.promises.specs.Careful.{Careful, NotBehind, AllCareful, none as no_steps, more, CarefulCall, CarefulCalls}
use Rattle.promises.specs.Cycle.{shown, left_on, after_execute, after_update, shadows_seen}
use Rattle.promises.proofs.Completed.{Completed}
use Rattle.promises.proofs.Kept.{Kept, find_kept, updated_kept, fetched_same, vertices_same}
use Rattle.promises.proofs.Within.{Allows, Moves, less_ahead, less_le, room, shadow_moves, shrinks_allow}
use Rattle.promises.specs.Ledger.{share, was_stalled, was_waiting, noted}
use Rattle.rules.specs.Search.{Walk, search}
use Rattle.promises.proofs.Turns.{Stepped, link_find, link_grow, link_allows, search_keeps}
use Rattle.promises.proofs.Reached.{Sound, cycle_sound, stepped_sound, call_sound}
use Rattle.promises.proofs.Sums.{vertices_fit, completed_adds}

speed_virtual : (s : CompactGrowState) (n : ℕ) (x : VertexRegisters) → (done_or x (moved s n x)).is_virtual ≡ x.is_virtual
unfolding moved
speed_virtual Stay n x = refl
speed_virtual Grow n x = by_test (λ (e : Executed). (done_or x e).is_virtual ≡ x.is_virtual) _ (λ t. refl) (λ t. refl)
speed_virtual Shrink n x = by_test (λ (e : Executed). (done_or x e).is_virtual ≡ x.is_virtual) _ (λ t. refl) (λ t. refl)

moved_virtual : (passed : Bool) (n : ℕ) (x : VertexRegisters) → (done_or x (pick passed (Ok x) (moved x.speed n x))).is_virtual ≡ x.is_virtual
unfolding pick
moved_virtual true n x = refl
moved_virtual false n x = speed_virtual x.speed n x

-- a finding, the state m after it, and a Grow by n that it allows, to t
module _ (g : Graph) (s m t : State) (f h : Finding) (n : ℕ) (sound : Sound g s.registers) (some : 1 ≤ n) (allows : Allows n f)
    (find : Completed (in_use g) s FindObstacle m f) (grow : Completed (in_use g) m (GrowBy n) t h) where
  kept : (v : ℕ) → Kept (at s.registers v) (at m.registers v)
  kept v = rw find.registers (find_kept (in_use g) s v)

  -- stages 1 and 2 are the same in the finding and in the Grow
  weights_same : weights_fetched (in_use g) m ≡ weights_fetched (in_use g) s
  weights_same = rw find.weights (fetched_same (in_use g).edges s.registers m.registers (λ v. (kept v).virtual) s.weights (in_use g).ne)

  stalls_same : vertices_stalled (in_use g) m ≡ vertices_stalled (in_use g) s
  stalls_same =
      rw weights_same (vertices_same (in_use g).edges s.registers m.registers (weights_fetched (in_use g) s) (in_use g).ne kept (in_use g).units (in_use g).nu)

  sound_middle : Sound g m.registers
  sound_middle = cycle_sound g s m FindObstacle f tt sound find

  sound_after : Sound g t.registers
  sound_after = cycle_sound g m t (GrowBy n) h tt sound_middle grow

  abbrev stopped : ℕ → Bool
  stopped v = get_or (vertices_stalled (in_use g) s) v false

  abbrev waiting : ℕ → Bool
  waiting v = waits (in_use g).vertices v (at m.registers v)

  module _ (v : ℕ) (l : v < (in_use g).nv) where
    fit : v < length m.registers
    fit = omega (arith, vertices_fit g, sound_middle.whole)

    shown_is : shown (in_use g) s v ≡ shadow_at (in_use g).vertices (in_use g).edges (weights_fetched (in_use g) s) (after_execute (in_use g) s FindObstacle) m.registers (vertices_stalled (in_use g) s) (in_use g).ne (in_use g).nv v
    shown_is =
        rw find.registers
        (shadows_at (in_use g).vertices (in_use g).edges (weights_fetched (in_use g) s) (after_execute (in_use g) s FindObstacle) (after_update (in_use g) s FindObstacle) (vertices_stalled (in_use g) s) (in_use g).ne (in_use g).nv v l (rw find.registers at fit))

    abbrev grown_to : VertexRegisters
    grown_to = done_or (at m.registers v) (pick (stopped v or waiting v) (Ok (at m.registers v)) (moved (at m.registers v).speed n (at m.registers v)))

    executes : execute_at (in_use g).vertices m.registers (vertices_stalled (in_use g) m) (GrowBy n) v ≡ pick (stopped v or waiting v) (Ok (at m.registers v)) (moved (at m.registers v).speed n (at m.registers v))
    unfolding execute_at execute still
    executes = rw stalls_same

    grown_is : (at t.registers v).grown ≡ grown_to.grown
    grown_is =
        let xs = after_execute (in_use g) m (GrowBy n) in
        ap (λ (r : List ℕ). (at r v).grown) grow.registers
        ∙ (updated_kept (in_use g).edges (weights_fetched (in_use g) m) xs (in_use g).ne (in_use g).nv v).grown
        ∙ ap (λ (x : VertexRegisters). x.grown) (executed_at (in_use g).vertices m.registers (vertices_stalled (in_use g) m) (GrowBy n) tt (in_use g).nv v l fit ∙ ap (done_or (at m.registers v)) executes)

    moves_inside : Moves (shown (in_use g) s v).speed n (at m.registers v).grown (at t.registers v).grown
    moves_inside =
        rw (shown_is, grown_is)
        (shadow_moves _ (waiting v) (stopped v) n (at m.registers v) some
        (rw (← find.registers) at (shrinks_allow _ _ _ _ _ (in_use g).nv n (rw find.found at allows) v l))
        (ap refusal_of (sym executes) ∙ grow.fine v l))

  moves_outside : (v : ℕ) → (in_use g).nv ≤ v → Moves (shown (in_use g) s v).speed n (at m.registers v).grown (at t.registers v).grown
  unfolding Moves view speed_of pick
  moves_outside v l =
      shadows_has (in_use g).vertices (in_use g).edges (weights_fetched (in_use g) s) (after_execute (in_use g) s FindObstacle) (after_update (in_use g) s FindObstacle) (vertices_stalled (in_use g) s) (in_use g).ne (in_use g).nv
      (λ (x : VertexRegisters). Moves x.speed n (at m.registers v).grown (at t.registers v).grown) v
      (λ k. let z : ⊥ = omega arith in absurd z)
      (rw (← find.registers, sound_middle.beyond v l, sound_after.beyond v l) refl)

  pub moves : (v : ℕ) → Moves (shown (in_use g) s v).speed n (at m.registers v).grown (at t.registers v).grown
  moves v = by_place (ltb v (in_use g).nv) refl
    where
      by_place : (b : Bool) → ltb v (in_use g).nv ≡ b → Moves (shown (in_use g) s v).speed n (at m.registers v).grown (at t.registers v).grown
      by_place true e = moves_inside v (ltb-true _ _ e)
      by_place false e = moves_outside v (ltb-false _ _ e)

  -- ---- edges

  grow_virtual : (v : ℕ) → (at t.registers v).is_virtual ≡ (at m.registers v).is_virtual
  unfolding execute_at execute
  grow_virtual v =
      let xs = after_execute (in_use g) m (GrowBy n) in
      ap (λ (r : List ℕ). (at r v).is_virtual) grow.registers
      ∙ (updated_kept (in_use g).edges (weights_fetched (in_use g) m) xs (in_use g).ne (in_use g).nv v).virtual
      ∙ executed_has (in_use g).vertices m.registers (vertices_stalled (in_use g) m) (GrowBy n) tt (in_use g).nv
      (λ (x : VertexRegisters). x.is_virtual ≡ (at m.registers v).is_virtual) v (λ l. moved_virtual (still (in_use g).vertices m.registers (vertices_stalled (in_use g) m) (GrowBy n) v) n (at m.registers v)) refl

  -- the Grow's own fetch weights are those before it and after it
  weights_after : weights_fetched (in_use g) t ≡ weights_fetched (in_use g) m
  weights_after = rw grow.weights (fetched_same (in_use g).edges m.registers t.registers grow_virtual m.weights (in_use g).ne)

  pub edges : (e : ℕ) → e < (in_use g).ne
      → same_node (shown (in_use g) s (left_of (in_use g).edges e)).node (shown (in_use g) s (right_of (in_use g).edges e)).node ≡ false
      → NotBehind (left_on (in_use g) m e) → NotBehind (left_on (in_use g) t e)
  unfolding left_on remaining
  edges e l d c =
      let w : get_or (weights_fetched (in_use g) m) e 0 ≡ get_or (weights_fetched (in_use g) s) e 0 = ap (λ (fs : List ℕ). get_or fs e 0) weights_same in
      rw (weights_after, w)
      (less_ahead _ _
      (room (in_use g).edges (weights_fetched (in_use g) s) (after_update (in_use g) s FindObstacle) (shadows_seen (in_use g) s FindObstacle) t.registers (in_use g).ne (in_use g).nv n
      (rw find.found at allows) find.even (λ v. rw find.registers at (moves v)) e l d (rw find.registers at (less_le _ _ (rw w at c)))))

-- ---- every step of a search

module _ (g : Graph) where
  pub record Going (c : Walk) : Type 0 where
    pub sound : Sound g c.state.registers
    pub careful : AllCareful g c.trail

  step_careful : (c d : Walk) → Sound g c.state.registers → (h : Stepped (in_use g) c d) → Careful g h.entry
  unfolding share was_stalled was_waiting still waits in_use
  step_careful c d p h =
      let l = h.link in
      let find = link_find (in_use g) l in
      let grow = link_grow (in_use g) l in
      record {
        seen = c.state;
        finding = GrowLength (Ahead l.limit);
        found = l.found;
        after = l.after;
        told = l.told;
        grew = l.grew;
        vertices = completed_adds g h.entry.before l.after (GrowBy h.entry.length) l.told tt (cycle_sound g _ _ FindObstacle _ tt p find) grow;
        edges = edges g c.state h.entry.before l.after _ l.told h.entry.length p l.some (link_allows (in_use g) l) find grow;
      }

  go : (c d : Walk) → Going c → Stepped (in_use g) c d → Going d
  go c d p h = record {
    sound = stepped_sound g c d p.sound h;
    careful = rw h.trail (more (step_careful c d p.sound h) p.careful);
  }

  pub search_careful : (s : State) → Sound g s.registers → AllCareful g (search g s).walk.trail
  search_careful s p =
      search_keeps g Going (λ a. AllCareful g a.walk.trail) (λ c a q h. rw h.trail q.careful) go s (record { sound = p; careful = no_steps })

  -- ---- every search of a run

  seek_careful : (s : State) (m : ℕ) (b : Bool) → Sound g s.registers → AllCareful g (pick b ((search g (with_maximum m s)).walk.trail ++ []) [])
  unfolding pick
  seek_careful s m true p = rw append-nil (search_careful (with_maximum m s) p)
  seek_careful s m false p = no_steps

  call_careful : (s : State) (c : Call) → Sound g s.registers → CarefulCall g s c
  unfolding noted
  call_careful s (seek m) p = seek_careful s m (ltb m 2_147_483_648) p
  call_careful s seek_on p = rw append-nil (search_careful s p)
  call_careful s (Run.execute i) p = tt
  call_careful s (word w) p = tt
  call_careful s clear p = tt
  call_careful s (look l) p = tt

  pub calls_careful : (s : State) (cs : List Call) → Sound g s.registers → CarefulCalls g s cs
  calls_careful s [] p = tt
  calls_careful s (c ∷ cs) p = (call_careful s c p, calls_careful (call g s c).state cs (call_sound g s c p))
