-- Each way out of a turn is the definition's.
use Rattle.comb_search.proofs.Ways.{turn_refused, turn_negative, turn_cut, turn_lowers, turn_grows}
use Rattle.std.proofs.Common.{rules}
use Rattle.comb_search.proofs.turn.take_turn.Goals as goal

pub returns-in_err-finding : goal.returns-in_err-finding
returns-in_err-finding c = turn_refused _ _ _ _ c.run_cycle.ensures _ c.in_err-finding.was (search rules)

pub returns-in_err-turn : goal.returns-in_err-turn
returns-in_err-turn c = turn_negative _ _ _ _ c.run_cycle.ensures _ c.in_ok-finding.was _ c.after_finding.ensures _ c.in_err-turn.was (search rules)

pub returns-in_err-run_cycle : goal.returns-in_err-run_cycle
returns-in_err-run_cycle c = turn_cut _ _ _ _ c.run_cycle.ensures _ c.in_ok-finding.was _ c.after_finding.ensures _ c.in_ok-turn.was _ _ c.in-Grew.is _ _ c.run_cycle-2.ensures _ c.in_err-run_cycle.was (search rules)

pub overflow_sub-state : goal.overflow_sub-state
overflow_sub-state c = turn_lowers _ _ _ _ c.run_cycle.ensures _ c.in_ok-finding.was _ c.after_finding.ensures _ c.in_ok-turn.was _ _ c.in-Grew.is _ _ c.run_cycle-2.ensures

pub returns : goal.returns
returns c = turn_grows _ _ _ _ c.run_cycle.ensures _ c.in_ok-finding.was _ c.after_finding.ensures _ c.in_ok-turn.was _ _ c.in-Grew.is _ _ c.run_cycle-2.ensures _ c.in_ok-run_cycle.was
