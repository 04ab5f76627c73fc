-- What is told of the search from here on is what is told of all of it.
use Rattle.comb_search.specs.declared.turn.Turn.TheVariants.{Grew}
use Rattle.comb_search.proofs.Again.{Covers, covers, counted, leaps}
use Rattle.comb_search.proofs.Seeks.{begins, ends_found, ends_stopped}
use Rattle.std.proofs.Common.{◌≡◌, Ok, refl, ap, ◌∙◌, arith}
use Rattle.comb_search.proofs.search.find_obstacle.Goals as goal

pub loop-finding-init : goal.loop-finding-init
loop-finding-init c = record { seeking = counted _ _ c.args.state.now refl (omega arith) refl (begins _ c.args.state.now); few = omega arith }

pub returns-in-Ok-Found : goal.returns-in-Ok-Found
returns-in-Ok-Found c = ends_found _ _ _ _ _ _ c.loop-finding.invariant.seeking _ c.take_turns.ensures.turn_after _ (c.in-Ok-Found.is ∙ ap Ok c.in-Ok-Found.field-0-is)

pub returns-in-Err : goal.returns-in-Err
returns-in-Err c = ends_stopped _ _ _ _ _ _ c.loop-finding.invariant.seeking _ c.take_turns.ensures.turn_after _ c.in-Err.is

pub overflow_mul-state : goal.overflow_mul-state
overflow_mul-state c =
    omega (arith, covers _ _ _ _ c.take_turns.ensures.turn_after _ _ (c.in-Ok-Grew.is ∙ ap Ok c.in-Ok-Grew.field-0-is) c.take_turns.ensures.repeats_turn)

grew : (c : goal.After-state-1) → c.take_turns.result ≡ Ok (Grew c.in-Ok-Grew.length c.in-Ok-Grew.more)
grew c = c.in-Ok-Grew.is ∙ ap Ok c.in-Ok-Grew.field-0-is

covered : (c : goal.After-state-1) → Covers c.loop-finding.state.maximum c.take_turns.new.state.maximum c.in-Ok-Grew.length c.in-Ok-Grew.more
covered c = covers _ _ _ _ c.take_turns.ensures.turn_after _ _ (grew c) c.take_turns.ensures.repeats_turn

pub overflow_add-steps : goal.overflow_add-steps
overflow_add-steps c = omega (arith, covered c)

pub overflow_add-steps-in-Ok-Grew : goal.overflow_add-steps-in-Ok-Grew
overflow_add-steps-in-Ok-Grew c = omega (arith, covered c)

pub loop-finding-smaller : goal.loop-finding-smaller
loop-finding-smaller c = omega (arith, covered c)

pub loop-finding-preserved : goal.loop-finding-preserved
loop-finding-preserved c = record {
  seeking = counted _ _ c.take_turns.new.state refl (omega (arith, covered c)) refl
      (leaps _ _ _ _ c.take_turns.ensures.turn_after _ _ (grew c) c.take_turns.ensures.repeats_turn _ _ _ c.loop-finding.invariant.seeking);
  few = omega (arith, covered c);
}
