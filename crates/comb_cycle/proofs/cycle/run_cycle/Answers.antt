-- Each stage's table is document 01's, and so is the end that they lead to.
use Rattle.comb_cycle.proofs.Cycling.{cycle_refused, cycle_found, none_held}
use Rattle.std.proofs.Common.{arith, rules}
use Rattle.comb_cycle.proofs.cycle.run_cycle.Goals as goal

pub returns-in_err-execute_all : goal.returns-in_err-execute_all
returns-in_err-execute_all c = cycle_refused _ _ _ _ _ _ _ _ _ _ _ _ c.stall_units.ensures.vertices_after c.execute_all.ensures _ c.in_err-execute_all.was (search rules)

pub keep_flags-requires : goal.keep_flags-requires
keep_flags-requires c = search (rules, none_held)

pub returns : goal.returns
returns c =
    let stalls = c.stall_units.ensures in
    let settled = c.settle-found.ensures in
    cycle_found _ _ _ _ _ _ _ _ _ _ _ _ stalls.vertices_after c.execute_all.ensures c.in_ok-execute_all.was (omega arith) c.args.board.now.laid.wired
    stalls.stalled_after settled.updated_after settled.shadows_after settled.value c.respond.ensures c.in-Ok.is c.keep_flags.ensures
