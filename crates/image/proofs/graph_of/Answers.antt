-- Each table is the definition's.
use Rattle.std.proofs.Common.{rules, arith}
use Rattle.rules.specs.Image.{graph_of, vertex_word, edge_word, edge_weight}
use Rattle.image.proofs.Tables.{painted}
use Rattle.image.proofs.graph_of.Goals as goal

pub returns : goal.returns
unfolding graph_of
returns c =
    let bs = c.args.bytes.now in
    let vertices = painted (vertex_word bs) _ 256 c.table.result (search rules) (λ k l. let h = c.table.ensures.each k l in search rules) c.table.ensures.rest in
    let edges = painted (edge_word bs) _ 1_024 c.table-2.result (search rules) (λ k l. let h = c.table-2.ensures.each k l in search rules) c.table-2.ensures.rest in
    let weights = painted (edge_weight bs) _ 1_024 c.table-3.result (search rules) (λ k l. let h = c.table-3.ensures.each k l in search rules) c.table-3.ensures.rest in
    grind arith
