-- What every state of a run has: a call is made of fresh starts, new maxima and completed instructions, so one law serves every fact.
use Prim.Native.Nat.{ℕ, zero, suc, ◌≤◌}
use mathlib.Core.Path.{◌≡◌, refl, ap, ◌∙◌}
use mathlib.Core.Bool.{Bool, true, false}
use mathlib.Core.List.{List, [], ◌∷◌, ◌++◌}
use mathlib.Core.Option.{Option, none, some}
use native.Mathlib.Omega.{arith}
use lib.Dec.{ltb}
use lib.ListN.{length, get_or, replicate, length-replicate}
use Rattle.laws.specs.Choice.{pick}
use Rattle.laws.specs.Table.{length_paint, paint_at}
use Rattle.rules.specs.Graph.{in_use}
use Rattle.rules.specs.Registers.{view, at}
use Rattle.rules.specs.State.{fresh_registers, fresh_state, reset, first_state, with_maximum}
use Rattle.rules.specs.Instruct.{vertices_stalled, step, barred, unless_barred, instruct, carried_out, word_run}
use Rattle.rules.specs.Search.{GrowthStep, Walk, Ended, search, search_on, search_to}
use Rattle.rules.specs.Words.{unpacked}
use Rattle.rules.specs.Run.{Call, execute, word, clear, seek, seek_on, look, call, run}
use Rattle.rules.specs.declared.graph.Graph.{Graph}
use Rattle.rules.specs.declared.state.State.{State}
use Rattle.rules.specs.declared.finding.Finding.{Finding}
use Rattle.rules.specs.Types.{Answer, Unpacked}
use Rattle.std.specs.Prelude.{Err, Ok}
use Rattle.rules.specs.declared.finding.Sought.TheVariants.{NotBegun}
use Rattle.rules.specs.declared.instruction.Instruction.{Instruction}
use Rattle.rules.specs.declared.instruction.Instruction.TheVariants.{FindObstacle, Grow as GrowBy}
use Rattle.rules.specs.declared.instruction.Asked.TheVariants as U
use Rattle.rules.specs.declared.refusal.Refusal.{Refusal}
use Rattle.rules.specs.declared.refusal.Refusal.TheVariants.{OutOfBounds}
use Rattle.rules.specs.declared.registers.VertexRegisters.{VertexRegisters}
use Rattle.promises.proofs.Stages.{Bounded, bounded, executed_has, updated_has, executed_length, updated_length}
use Rattle.promises.specs.Cycle.{after_execute}
use Rattle.promises.specs.Ledger.{grows, if_done, of_instruction, after_word, noted, ledger}
use Rattle.promises.proofs.Completed.{Completed, Told, step_tells}
use Rattle.promises.proofs.Turns.{Stopped, Stepped, link_find, link_grow, search_keeps}

-- What holds of a fresh decoder with nothing noted, whatever the maximum, and is kept by each completed instruction with the step that it is,
-- holds over any calls with the steps that the ledger notes. What is said of the registers alone asks nothing of the maximum.
module _ (g : Graph) (Q : State → List GrowthStep → Type 0)
    (start : (m : ℕ) → Q (fresh_state g m) [])
    (limited : (m : ℕ) (s : State) (es : List GrowthStep) → Q s es → Q (with_maximum m s) es)
    (cycle : (s t : State) (i : Instruction) (f : Finding) (es : List GrowthStep) → Bounded i → Q s es → Completed (in_use g) s i t f → Q t (grows s i ++ es)) where
  -- ---- an instruction
  told_keeps : (s : State) (i : Instruction) (es : List GrowthStep) → Bounded i → Q s es → (t : State) (a : Answer) → Told (in_use g) s i t a
      → Q t (if_done (grows s i) a ++ es)
  told_keeps s i es b q t (Ok f) h = cycle s t i f es b q h
  told_keeps s i es b q t (Err r) h = rw h.0 q

  by_bar : (s : State) (i : Instruction) (es : List GrowthStep) → Q s es → (o : Option Refusal) → barred (in_use g) i ≡ o
      → let c = unless_barred (in_use g) s i o in Q c.state (if_done (grows s i) c.answer ++ es)
  by_bar s i es q none e = told_keeps s i es (bounded (in_use g) i e) q (step (in_use g) s i).state (step (in_use g) s i).answer (step_tells (in_use g) s i)
  by_bar s i es q (some r) e = q

  instruct_keeps : (s : State) (i : Instruction) (es : List GrowthStep) → Q s es → Q (instruct g s i).state (of_instruction g s i ++ es)
  unfolding instruct of_instruction
  instruct_keeps s i es q = by_bar s i es q (barred (in_use g) i) refl

  word_keeps : (s : State) (u : Unpacked) (es : List GrowthStep) → Q s es → Q (carried_out g s u).state (after_word g s es u)
  unfolding reset
  word_keeps s (Ok (U.Says i)) es q = instruct_keeps s i es q
  word_keeps s (Ok U.Reset) es q = start s.maximum
  word_keeps s (Err r) es q = q

  -- ---- a search
  module _ (es : List GrowthStep) where
    found_keeps : (s t : State) (a : Answer) (ts : List GrowthStep) → Q s ts → Told (in_use g) s FindObstacle t a → Q t ts
    found_keeps s t (Ok f) ts q h = cycle s t FindObstacle f ts tt q h
    found_keeps s t (Err r) ts q h = rw h.0 q

    stopped_keeps : (c : Walk) (a : Ended) → Q c.state (c.trail ++ es) → Stopped (in_use g) c a → Q a.walk.state (a.walk.trail ++ es)
    stopped_keeps c a q h =
        let c' = step (in_use g) c.state FindObstacle in
        rw (h.leaves, h.trail) (found_keeps c.state c'.state c'.answer (c.trail ++ es) q (step_tells (in_use g) c.state FindObstacle))

    pub stepped_keeps : (c d : Walk) → Q c.state (c.trail ++ es) → Stepped (in_use g) c d → Q d.state (d.trail ++ es)
    stepped_keeps c d q h =
        let found = cycle c.state h.entry.before FindObstacle _ (c.trail ++ es) tt q (link_find (in_use g) h.link) in
        let grown = cycle h.entry.before h.link.after (GrowBy h.entry.length) h.link.told (c.trail ++ es) tt found (link_grow (in_use g) h.link) in
        rw (h.link.lowered, h.trail) (limited _ _ _ grown)

    searched_keeps : (s : State) → Q s es → Q (search g s).walk.state ((search g s).walk.trail ++ es)
    searched_keeps s q =
        search_keeps g (λ c. Q c.state (c.trail ++ es)) (λ a. Q a.walk.state (a.walk.trail ++ es)) stopped_keeps stepped_keeps s q

  seek_keeps : (s : State) (m : ℕ) (es : List GrowthStep) → Q s es → (b : Bool)
      → Q (pick b (search_on g (with_maximum m s)) (record { state = s; answer = NotBegun OutOfBounds })).state (pick b ((search g (with_maximum m s)).walk.trail ++ es) es)
  unfolding pick search_on
  seek_keeps s m es q true = searched_keeps es (with_maximum m s) (limited m s es q)
  seek_keeps s m es q false = q

  -- ---- calls
  pub call_keeps : (s : State) (c : Call) (es : List GrowthStep) → Q s es → Q (call g s c).state (noted g s es c)
  unfolding call noted word_run reset search_on search_to
  call_keeps s (execute i) es q = instruct_keeps s i es q
  call_keeps s (word w) es q = word_keeps s (unpacked w) es q
  call_keeps s clear es q = start s.maximum
  call_keeps s (seek m) es q = seek_keeps s m es q (ltb m 2_147_483_648)
  call_keeps s seek_on es q = searched_keeps es s q
  call_keeps s (look l) es q = q

  pub run_keeps : (s : State) (cs : List Call) (es : List GrowthStep) → Q s es → Q (run g s cs) (ledger g s es cs)
  unfolding run ledger
  run_keeps s [] es q = q
  run_keeps s (c ∷ cs) es q = run_keeps (call g s c).state cs (noted g s es c) (call_keeps s c es q)

  -- from a fresh decoder
  pub run_from_fresh : (cs : List Call) → Q (run g (first_state g) cs) (ledger g (first_state g) [] cs)
  unfolding first_state
  run_from_fresh cs = run_keeps _ cs [] (start _)

-- ---- the registers keep their number, and what lies beyond the vertices stays blank

pub record Sound (g : Graph) (rs : List ℕ) : Type 0 where
  pub whole : length rs ≡ 256
  pub beyond : (v : ℕ) → (in_use g).nv ≤ v → at rs v ≡ view 0

pub blank : (n v : ℕ) → get_or {A = ℕ} (replicate n 0) v 0 ≡ 0
blank zero v = refl
blank (suc n) zero = refl
blank (suc n) (suc v) = blank n v

module _ (g : Graph) where
  pub fresh_sound : (m : ℕ) → Sound g (fresh_state g m).registers
  unfolding fresh_state fresh_registers at
  fresh_sound m = record {
    whole = length_paint _ (in_use g).nv (replicate 256 0) ∙ length-replicate {A = ℕ} 256 0;
    beyond = λ v l. paint_at _ (λ (w : ℕ). view w ≡ view 0) 0 (in_use g).nv (replicate 256 0) v (λ h. let z : ⊥ = omega arith in absurd z) (ap view (blank 256 v));
  }

  pub cycle_sound : (s t : State) (i : Instruction) (f : Finding) → Bounded i → Sound g s.registers → Completed (in_use g) s i t f → Sound g t.registers
  cycle_sound s t i f b p h = record {
    whole = rw h.registers (updated_length _ _ _ _ (in_use g).nv ∙ executed_length (in_use g).vertices s.registers (vertices_stalled (in_use g) s) i b (in_use g).nv ∙ p.whole);
    beyond = λ v l.
        rw h.registers
        (updated_has _ _ (after_execute (in_use g) s i) _ (in_use g).nv (λ (y : VertexRegisters). y ≡ view 0) v (λ q. let z : ⊥ = omega arith in absurd z)
        (executed_has (in_use g).vertices s.registers (vertices_stalled (in_use g) s) i b (in_use g).nv (λ (y : VertexRegisters). y ≡ view 0) v
        (λ q. let z : ⊥ = omega arith in absurd z) (p.beyond v l)));
  }

  abbrev SoundAt : State → List GrowthStep → Type 0
  SoundAt s es = Sound g s.registers

  pub stepped_sound : (c d : Walk) → Sound g c.state.registers → Stepped (in_use g) c d → Sound g d.state.registers
  stepped_sound = stepped_keeps g SoundAt fresh_sound (λ m s es p. p) (λ s t i f es. cycle_sound s t i f) []

  pub call_sound : (s : State) (c : Call) → Sound g s.registers → Sound g (call g s c).state.registers
  call_sound s c = call_keeps g SoundAt fresh_sound (λ m t es p. p) (λ t u i f es. cycle_sound t u i f) s c []

  pub run_sound : (cs : List Call) → Sound g (run g (first_state g) cs).registers
  run_sound = run_from_fresh g SoundAt fresh_sound (λ m s es p. p) (λ s t i f es. cycle_sound s t i f)
