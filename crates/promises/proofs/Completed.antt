-- What one instruction leaves, said once: it is refused and changes nothing, or it is completed and each stage's table is what document 01
-- says. Every later fact reads these fields.
use Prim.Native.Nat.{ℕ, ◌<◌}
use mathlib.Core.Path.{◌≡◌, refl}
use mathlib.Core.Bool.{false}
use mathlib.Core.Option.{Option, none, some}
use Rattle.laws.specs.Choice.{by_test}
use Rattle.laws.specs.First.{first_at}
use Rattle.rules.specs.Execute.{execute_at, execute_refusal, refusal_of}
use Rattle.rules.specs.Reduce.{some_odd, finding}
use Rattle.rules.specs.Instruct.{weights_fetched, vertices_stalled, edges_stalled, concluded, settled, carried, step}
use Rattle.promises.specs.Cycle.{after_execute, after_update, shadows_seen}
use Rattle.rules.specs.declared.graph.Graph.{Graph}
use Rattle.rules.specs.declared.state.State.{State}
use Rattle.rules.specs.declared.state.Cycle.{Cycle}
use Rattle.rules.specs.declared.finding.Finding.{Finding}
use Rattle.rules.specs.Types.{Answer}
use Rattle.std.specs.Prelude.{Err, Ok}
use Rattle.rules.specs.declared.instruction.Instruction.{Instruction}
use Rattle.rules.specs.declared.refusal.Refusal.{Refusal}
use Rattle.rules.specs.declared.refusal.Refusal.TheVariants.{OddRemaining}

module _ (g : Graph) (s : State) (i : Instruction) where
  pub record Completed (t : State) (f : Finding) : Type 0 where
    pub fine : (v : ℕ) → v < g.nv → refusal_of (execute_at g.vertices s.registers (vertices_stalled g s) i v) ≡ none
    pub even : some_odd g.edges (weights_fetched g s) (after_update g s i) (shadows_seen g s i) g.ne ≡ false
    pub found : f ≡ finding g.edges (weights_fetched g s) (after_update g s i) (shadows_seen g s i) g.ne g.nv
    pub registers : t.registers ≡ after_update g s i
    pub weights : t.weights ≡ s.weights
    pub stalled : t.stalled ≡ edges_stalled g s
    pub maximum : t.maximum ≡ s.maximum

  -- why an instruction is refused: stage 3 says so, or 16
  pub data Refuses (r : Refusal) : Type 0 where
    by_execute : execute_refusal g.vertices s.registers (vertices_stalled g s) i g.nv ≡ some r → Refuses r
    by_odd : r ≡ OddRemaining → Refuses r

  abbrev pub Told : State → Answer → Type 0
  Told t (Ok f) = Completed t f
  Told t (Err r) = (t ≡ s) × Refuses r

  abbrev Tells : Cycle → Type 0
  Tells c = Told c.state c.answer

  settled_tells : execute_refusal g.vertices s.registers (vertices_stalled g s) i g.nv ≡ none → Tells (settled g s (after_execute g s i))
  unfolding settled concluded execute_refusal
  settled_tells h =
      by_test Tells (some_odd g.edges (weights_fetched g s) (after_update g s i) (shadows_seen g s i) g.ne)
      (λ t. (refl, by_odd refl))
      (λ t. record { fine = first_at g.nv _ h; even = t; found = refl; registers = refl; weights = refl; stalled = refl; maximum = refl })

  carried_tells : (o : Option Refusal) → execute_refusal g.vertices s.registers (vertices_stalled g s) i g.nv ≡ o → Tells (carried g s (after_execute g s i) o)
  carried_tells none h = settled_tells h
  carried_tells (some r) h = (refl, by_execute h)

  pub step_tells : Told (step g s i).state (step g s i).answer
  unfolding step
  step_tells = carried_tells _ refl
