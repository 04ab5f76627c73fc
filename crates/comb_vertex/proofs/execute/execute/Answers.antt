-- At the first vertex that is refused, those before it are written; where none is, all are.
use Rattle.comb_vertex.proofs.Executing.{stop_answer, stop_table, end_table}
use Rattle.comb_vertex.proofs.execute.execute.Goals as goal

pub returns-in_err-execute_at-clause-value : goal.returns-in_err-execute_at-clause-value
returns-in_err-execute_at-clause-value c =
    stop_answer _ _ _ _ c.in_err-execute_at.ensures c.loop-v-test.true c.nv-v-end.ensures _ c.from_residual.ensures.1 c.loop-v.invariant.none_refused

pub returns-in_err-execute_at-clause-out_after : goal.returns-in_err-execute_at-clause-out_after
returns-in_err-execute_at-clause-out_after c =
    stop_table _ _ _ _ c.in_err-execute_at.ensures c.loop-v-test.true c.nv-v-end.ensures _ _ c.loop-v.invariant.written c.loop-v.invariant.counted

pub returns-clause-out_after : goal.returns-clause-out_after
returns-clause-out_after c =
    end_table _ _ _ _ c.loop-v.auto.v-end c.loop-v-test.false c.nv-v-end.ensures _ _ c.loop-v.invariant.written c.loop-v.invariant.counted
