-- The tables made of the graph are what is in use of it, on which every call answers as on the graph.
use Rattle.session.proofs.Again.{lent_done, lent_text}
use Rattle.std.proofs.Common.{rules}
use Rattle.session.proofs.run_chunk.Goals as goal

pub returns : goal.returns
returns c = record { value = search (rules, lent_done); out_after = search (rules, lent_text); used_in_bounds = search rules }
