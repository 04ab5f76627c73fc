-- The graph on a board is all in use.
use Rattle.std.specs.Prelude.{ℕ, min, ◌≡◌, List}
use Rattle.std.proofs.Common.{arith}
use Rattle.rules.specs.Graph.{edges_in_use, in_use}
use Rattle.board.specs.Board.{edges_on, nv_on, ne_on, nu_on, graph_on, Laid}
use Rattle.comb_lent.specs.Again.{edges_again}

pub all_in_use : (b : List ℕ) → Laid b → in_use (graph_on b) ≡ graph_on b
unfolding in_use
all_in_use b l =
    let v : min (nv_on b) 256 ≡ nv_on b = omega arith in
    let u : min (nu_on b) 2_048 ≡ nu_on b = omega arith in
    let e : edges_in_use (edges_on b) (min (ne_on b) 1_024) ≡ ne_on b = rw l.wired.used (edges_again (edges_on b) _ l.wired.small) in
    rw (v, u, e)
