-- What a cycle leaves alone: a refused one the whole state, any one the weights and the maximum, which plays no part in it.
use Rattle.std.specs.Prelude.{ℕ, ◌≡◌, refl, Bool, true, false, List}
use Rattle.std.proofs.Common.{ap}
use Rattle.std.proofs.Math.Option.{Option, none, some}
use Rattle.laws.specs.Choice.{pick, by_test}
use Rattle.rules.specs.Execute.{executed, execute_refusal}
use Rattle.rules.specs.State.{with_maximum}
use Rattle.rules.specs.Instruct.{vertices_stalled, concluded, settled, carried, step}
use Rattle.rules.specs.declared.graph.Graph.{Graph}
use Rattle.rules.specs.declared.state.State.{State}
use Rattle.rules.specs.declared.state.Cycle.{Cycle}
use Rattle.std.specs.Prelude.{Err}
use Rattle.rules.specs.declared.instruction.Instruction.{Instruction}
use Rattle.rules.specs.declared.refusal.Refusal.{Refusal}

-- the cycle c, with these weights and this maximum in the state that it leaves
abbrev pub kept_in : Cycle → List ℕ → ℕ → Cycle
kept_in c ws m = record { state = record { registers = c.state.registers; weights = ws; stalled = c.state.stalled; maximum = m }; answer = c.answer }

module _ (g : Graph) (s : State) (m : ℕ) where
  pick_kept : (b : Bool) (x y : Cycle) → pick b (kept_in x s.weights m) (kept_in y s.weights m) ≡ kept_in (pick b x y) s.weights m
  unfolding pick
  pick_kept true x y = refl
  pick_kept false x y = refl

  settled_whole : (xs : List ℕ) → settled g (with_maximum m s) xs ≡ kept_in (settled g s xs) s.weights m
  unfolding settled concluded
  settled_whole xs = pick_kept _ _ _

  carried_whole : (xs : List ℕ) (o : Option Refusal) → carried g (with_maximum m s) xs o ≡ kept_in (carried g s xs o) s.weights m
  carried_whole xs none = settled_whole xs
  carried_whole xs (some r) = refl

  pub step_cycled : (i : Instruction) → step g (with_maximum m s) i ≡ kept_in (step g s i) s.weights m
  unfolding step
  step_cycled i =
      carried_whole (executed g.vertices s.registers (vertices_stalled g s) i g.nv) (execute_refusal g.vertices s.registers (vertices_stalled g s) i g.nv)

pub weights_stay : (g : Graph) (s : State) (i : Instruction) → (step g s i).state.weights ≡ s.weights
weights_stay g s i = ap (λ (c : Cycle). c.state.weights) (step_cycled g s s.maximum i)

pub maximum_stays : (g : Graph) (s : State) (i : Instruction) → (step g s i).state.maximum ≡ s.maximum
maximum_stays g s i = ap (λ (c : Cycle). c.state.maximum) (step_cycled g s s.maximum i)

-- ---- a refused cycle changes nothing

abbrev Keeps : State → Cycle → Type 0
Keeps s c = (r : Refusal) → c.answer ≡ Err r → c.state ≡ s

module _ (g : Graph) (s : State) where
  settled_keeps : (xs : List ℕ) → Keeps s (settled g s xs)
  unfolding settled concluded
  settled_keeps xs = by_test (Keeps s) _ (λ t r e. refl) (λ t r e. cc)

  carried_keeps : (xs : List ℕ) (o : Option Refusal) → Keeps s (carried g s xs o)
  carried_keeps xs none = settled_keeps xs
  carried_keeps xs (some n) = λ r e. refl

  pub refused_keeps : (i : Instruction) → Keeps s (step g s i)
  unfolding step
  refused_keeps i =
      carried_keeps (executed g.vertices s.registers (vertices_stalled g s) i g.nv) (execute_refusal g.vertices s.registers (vertices_stalled g s) i g.nv)
