-- The ledger: a completed instruction adds to a vertex what its share of the step is, and a fresh decoder has nothing; so the grown amount is
-- always the sum.
use Prim.Native.Nat.{ℕ, ◌<◌, ◌≤◌}
use mathlib.Core.Path.{◌≡◌, refl, sym, ap, ◌∙◌}
use mathlib.Core.Bool.{Bool, true, false}
use mathlib.Core.List.{List, [], ◌++◌}
use mathlib.Core.Option.{none}
use native.Mathlib.Nat.{mul-zero, mul-one}
use native.Mathlib.Omega.{arith}
use lib.IntN.{ℤ, pos, neg_ℤ, ◌+ℤ◌, ◌-ℤ◌, pos-+ℤ-pos, +ℤ-neg_ℤ_cancel, +ℤ_idr}
use lib.ListN.{length, replicate, length-replicate}
use Rattle.laws.specs.Choice.{◌or◌, pick, by_test}
use Rattle.rules.specs.Graph.{in_use, has_layer, is_default_virtual}
use Rattle.rules.specs.Registers.{at, fresh}
use Rattle.rules.specs.Execute.{moved, execute, refusal_of, done_or, execute_at, still, waits}
use Rattle.rules.specs.State.{fresh_registers, fresh_state, first_state}
use Rattle.rules.specs.Instruct.{weights_fetched, vertices_stalled}
use Rattle.rules.specs.Search.{GrowthStep}
use Rattle.rules.specs.Run.{Call, run}
use Rattle.rules.specs.declared.graph.Graph.{Graph}
use Rattle.rules.specs.declared.state.State.{State}
use Rattle.rules.specs.declared.finding.Finding.{Finding}
use Rattle.rules.specs.declared.instruction.CompactGrowState.{CompactGrowState}
use Rattle.rules.specs.declared.instruction.CompactGrowState.TheVariants.{Stay, Grow, Shrink}
use Rattle.rules.specs.declared.instruction.Instruction.{Instruction}
use Rattle.rules.specs.declared.instruction.Instruction.TheVariants.{SetSpeed, SetBlossom, AddDefectVertex, FindObstacle, Grow as GrowBy, LoadDefectsExternal}
use Rattle.rules.specs.declared.registers.VertexRegisters.{VertexRegisters}
use Rattle.std.specs.Prelude.{Ok}
use Rattle.promises.specs.Cycle.{after_execute}
use Rattle.promises.specs.Ledger.{times, grows, was_stalled, was_waiting, share, total, ledger}
use Rattle.promises.proofs.Stages.{fresh_fits, Bounded, executed_at, updated_at, executed_length, filled_at}
use Rattle.promises.proofs.Completed.{Completed}
use Rattle.promises.proofs.Kept.{update_kept}
use Rattle.promises.proofs.Within.{Moves, own_moves}
use Rattle.promises.proofs.Reached.{Sound, fresh_sound, cycle_sound, run_from_fresh}

-- ---- one growth of one vertex

times_stay : (n : ℕ) → times Stay n ≡ pos 0
unfolding times
times_stay n = rw mul-zero

times_grow : (n : ℕ) → times Grow n ≡ pos n
unfolding times
times_grow n = rw (mul-one n)

times_shrink : (n : ℕ) → times Shrink n ≡ neg_ℤ (pos n)
unfolding times
times_shrink n = rw (mul-one n)

-- a vertex that moves at a speed adds that speed times the length
moves_adds : (s : CompactGrowState) (n a b : ℕ) → Moves s n a b → pos b ≡ pos a +ℤ times s n
unfolding Moves
moves_adds Stay n a b h = rw (times_stay n) (ap pos h ∙ sym (+ℤ_idr (pos a)))
moves_adds Grow n a b h = rw (times_grow n) (ap pos h ∙ sym (pos-+ℤ-pos a n))
moves_adds Shrink n a b h =
    rw (times_shrink n)
    (sym (+ℤ-neg_ℤ_cancel (pos b) (pos n)) ∙ ap (λ (z : ℤ). z -ℤ pos n) (pos-+ℤ-pos b n ∙ ap pos h))

-- what an instruction adds to a vertex that holds x; passed where it is stalled or waits
abbrev adds : Instruction → Bool → VertexRegisters → ℤ
adds (SetSpeed n s) passed x = pos 0
adds (SetBlossom n b) passed x = pos 0
adds (AddDefectVertex v n) passed x = pos 0
adds FindObstacle passed x = pos 0
adds (GrowBy l) passed x = pick passed (pos 0) (times x.speed l)
adds (LoadDefectsExternal t) passed x = pos 0

same : (n : ℕ) → pos n ≡ pos n +ℤ pos 0
same n = sym (+ℤ_idr (pos n))

abbrev Unmoved : VertexRegisters → VertexRegisters → Type 0
Unmoved x y = pos y.grown ≡ pos x.grown +ℤ pos 0

grow_adds : (passed : Bool) (l : ℕ) (x : VertexRegisters) → refusal_of (pick passed (Ok x) (moved x.speed l x)) ≡ none
    → pos (done_or x (pick passed (Ok x) (moved x.speed l x))).grown ≡ pos x.grown +ℤ pick passed (pos 0) (times x.speed l)
unfolding pick
grow_adds true l x h = same x.grown
grow_adds false l x h = moves_adds x.speed l x.grown _ (own_moves x.speed l x h)

execute_adds : (i : Instruction) (v layer : ℕ) (passed : Bool) (x : VertexRegisters) → refusal_of (execute i v layer passed x) ≡ none
    → pos (done_or x (execute i v layer passed x)).grown ≡ pos x.grown +ℤ adds i passed x
unfolding execute
execute_adds (SetSpeed n s) v layer passed x h = by_test (Unmoved x) _ (λ t. same x.grown) (λ t. same x.grown)
execute_adds (SetBlossom n b) v layer passed x h = by_test (Unmoved x) _ (λ t. same x.grown) (λ t. same x.grown)
execute_adds (AddDefectVertex w n) v layer passed x h = by_test (Unmoved x) _ (λ t. same x.grown) (λ t. same x.grown)
execute_adds FindObstacle v layer passed x h = same x.grown
execute_adds (GrowBy l) v layer passed x h = grow_adds passed l x h
execute_adds (LoadDefectsExternal k) v layer passed x h = by_test (Unmoved x) _ (λ t. same x.grown) (λ t. same x.grown)

-- ---- one instruction

module _ (g : Graph) where
  pub vertices_fit : (in_use g).nv ≤ 256
  unfolding in_use
  vertices_fit = omega arith

  -- what a completed instruction adds to v
  abbrev pub adds_to : State → Instruction → ℕ → ℤ
  adds_to s i v = adds i (still (in_use g).vertices s.registers (vertices_stalled (in_use g) s) i v) (at s.registers v)

  pub completed_adds : (s t : State) (i : Instruction) (f : Finding) → Bounded i → Sound g s.registers → Completed (in_use g) s i t f → (v : ℕ) → v < (in_use g).nv
      → pos (at t.registers v).grown ≡ pos (at s.registers v).grown +ℤ adds_to s i v
  unfolding execute_at
  completed_adds s t i f b p h v l =
      let fit : v < length s.registers = omega (arith, p.whole, vertices_fit) in
      let xs = after_execute (in_use g) s i in
      let fit' : v < length xs = rw (executed_length (in_use g).vertices s.registers (vertices_stalled (in_use g) s) i b (in_use g).nv) fit in
      let y : (at t.registers v).grown ≡ (at xs v).grown =
      ap (λ (r : List ℕ). (at r v).grown) h.registers
      ∙ ap (λ (x : VertexRegisters). x.grown) (updated_at (in_use g).edges (weights_fetched (in_use g) s) xs (in_use g).ne (in_use g).nv v l fit')
      ∙ (update_kept _ (at xs v)).grown
      in
      ap pos y ∙ ap (λ (x : VertexRegisters). pos x.grown) (executed_at (in_use g).vertices s.registers (vertices_stalled (in_use g) s) i b (in_use g).nv v l fit)
      ∙ execute_adds i v _ _ (at s.registers v) (h.fine v l)

  -- what the ledger notes of a completed instruction
  grows_adds : (s : State) (i : Instruction) (es : List GrowthStep) (v : ℕ) → total g v (grows s i ++ es) ≡ total g v es +ℤ adds_to s i v
  unfolding total share still waits was_stalled was_waiting in_use
  grows_adds s (SetSpeed n x) es v = sym (+ℤ_idr (total g v es))
  grows_adds s (SetBlossom n b) es v = sym (+ℤ_idr (total g v es))
  grows_adds s (AddDefectVertex w n) es v = sym (+ℤ_idr (total g v es))
  grows_adds s FindObstacle es v = sym (+ℤ_idr (total g v es))
  grows_adds s (GrowBy l) es v = refl
  grows_adds s (LoadDefectsExternal k) es v = sym (+ℤ_idr (total g v es))

  -- ---- the registers agree with the steps noted
  pub record Agrees (rs : List ℕ) (es : List GrowthStep) : Type 0 where
    pub sound : Sound g rs
    pub each : (v : ℕ) → v < (in_use g).nv → pos (at rs v).grown ≡ total g v es

  fresh_agrees : (m : ℕ) → Agrees (fresh_state g m).registers []
  unfolding total fresh_state fresh_registers fresh
  fresh_agrees m = record {
    sound = fresh_sound g m;
    each = λ v l. ap (λ (x : VertexRegisters). pos x.grown) (filled_at (λ v. fresh (has_layer g.vertices v or is_default_virtual g.vertices v)) (λ v. fresh_fits _) (in_use g).nv (replicate 256 0) v l (omega (arith, vertices_fit, length-replicate {A = ℕ} 256 0)));
  }

  cycle_agrees : (s t : State) (i : Instruction) (f : Finding) (es : List GrowthStep) → Bounded i → Agrees s.registers es → Completed (in_use g) s i t f
      → Agrees t.registers (grows s i ++ es)
  cycle_agrees s t i f es b a h = record {
    sound = cycle_sound g s t i f b a.sound h;
    each = λ v l. completed_adds s t i f b a.sound h v l ∙ ap (λ (z : ℤ). z +ℤ adds_to s i v) (a.each v l) ∙ sym (grows_adds s i es v);
  }

  pub run_agrees : (cs : List Call) → Agrees (run g (first_state g) cs).registers (ledger g (first_state g) [] cs)
  run_agrees = run_from_fresh g (λ s es. Agrees s.registers es) fresh_agrees (λ m s es a. a) cycle_agrees
