-- The strongest report is what all edges answer, and what the vertices found is reduced with it.
use Rattle.comb_cycle.proofs.Responds.{says_conflict, says_length}
use Rattle.std.proofs.Common.{rules}
use Rattle.comb_cycle.proofs.settled.Settled.respond.Goals as goal

pub returns-in_ok-response-in-Conflict : goal.returns-in_ok-response-in-Conflict
returns-in_ok-response-in-Conflict c =
    says_conflict _ _ _ _ _ _ c.report_in.ensures c.strongest.ensures _ c.in-Conflict.is c.from.ensures c.response.ensures c.in_ok-response-in-Conflict.was c.reduce.ensures

pub returns-in-Length : goal.returns-in-Length
returns-in-Length c = search (rules, says_length)
