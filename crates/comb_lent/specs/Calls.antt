-- The maximum plays no part in an instruction or a word, and both keep it; an instruction keeps the weights, too.
use Rattle.std.specs.Prelude.{ℕ, ◌≡◌, refl, Ok, Err}
use Rattle.std.proofs.Math.Option.{Option, none, some}
use Rattle.rules.specs.Graph.{in_use}
use Rattle.rules.specs.State.{with_maximum, fresh_state, reset}
use Rattle.rules.specs.Words.{unpacked}
use Rattle.rules.specs.Instruct.{barred, unless_barred, instruct, word_cycle, carried_out, word_run}
use Rattle.rules.specs.Types.{Unpacked}
use Rattle.rules.specs.declared.graph.Graph.{Graph}
use Rattle.rules.specs.declared.state.State.{State}
use Rattle.rules.specs.declared.state.WordCycle.{WordCycle}
use Rattle.rules.specs.declared.instruction.Instruction.{Instruction}
use Rattle.rules.specs.declared.instruction.Asked.TheVariants as U
use Rattle.rules.specs.declared.refusal.Refusal.{Refusal}
use Rattle.comb_cycle.specs.Cycled.{kept_in, step_cycled, weights_stay}

-- the cycle c, with this maximum in the state that it leaves
abbrev pub with_left : ℕ → WordCycle → WordCycle
with_left m c = record { state = with_maximum m c.state; answer = c.answer }

module _ (g : Graph) (s : State) where
  bar_keeps : (i : Instruction) (o : Option Refusal) → (unless_barred (in_use g) s i o).state.weights ≡ s.weights
  bar_keeps i none = weights_stay (in_use g) s i
  bar_keeps i (some r) = refl

  -- an instruction changes no weight
  pub instruct_keeps : (i : Instruction) → (instruct g s i).state.weights ≡ s.weights
  unfolding instruct
  instruct_keeps i = bar_keeps i (barred (in_use g) i)

  module _ (m : ℕ) where
    by_bar : (i : Instruction) (o : Option Refusal) → unless_barred (in_use g) (with_maximum m s) i o ≡ kept_in (unless_barred (in_use g) s i o) s.weights m
    by_bar i none = step_cycled (in_use g) s m i
    by_bar i (some r) = refl

    pub instruct_is : (i : Instruction) → instruct g (with_maximum m s) i ≡ kept_in (instruct g s i) s.weights m
    unfolding instruct
    instruct_is i = by_bar i (barred (in_use g) i)

    says_is : (i : Instruction) → word_cycle (instruct g (with_maximum m s) i) ≡ with_left m (word_cycle (instruct g s i))
    says_is i = rw (instruct_is i, instruct_keeps i)

    carried_is : (u : Unpacked) → carried_out g (with_maximum m s) u ≡ with_left m (carried_out g s u)
    unfolding reset fresh_state
    carried_is (Ok (U.Says i)) = says_is i
    carried_is (Ok U.Reset) = refl
    carried_is (Err r) = refl

    pub word_is : (w : ℕ) → word_run g (with_maximum m s) w ≡ with_left m (word_run g s w)
    unfolding word_run
    word_is w = carried_is (unpacked w)
