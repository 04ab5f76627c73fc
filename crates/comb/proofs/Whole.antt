-- What the board made of a graph answers is what the graph answers, over variables.
use Rattle.std.specs.Prelude.{ℕ, min, ◌≡◌, Bool, false, List, replicate}
use Rattle.std.proofs.Common.{ap, ◌∙◌}
use Rattle.rules.specs.Graph.{in_use}
use Rattle.rules.specs.State.{with_maximum, fresh_registers, fresh_state, first_state}
use Rattle.rules.specs.Image.{opened}
use Rattle.rules.specs.Instruct.{instruct, word_run}
use Rattle.rules.specs.Pairs.{pairs, listed, buffered}
use Rattle.rules.specs.Search.{search_on, search_to}
use Rattle.rules.specs.declared.graph.Graph.{Graph}
use Rattle.rules.specs.declared.graph.Opened.{Opened}
use Rattle.rules.specs.declared.state.State.{State}
use Rattle.rules.specs.declared.state.Cycle.{Cycle}
use Rattle.rules.specs.declared.state.WordCycle.{WordCycle}
use Rattle.rules.specs.declared.state.Searched.{Searched}
use Rattle.rules.specs.Types.{Listed}
use Rattle.rules.specs.declared.instruction.Instruction.{Instruction}
use Rattle.board.specs.Board.{vertices_on, nv_on, graph_on}
use Rattle.comb_lent.specs.Raised.{with_pairs}
use Rattle.comb.specs.Decoder.{decoder_of}
use Rattle.comb_lent.specs.Again.{instruct_again, word_again, search_again}

pub fresh_made : (g : Graph) (m : ℕ) (b rs : List ℕ) (none : List Bool) → graph_on b ≡ in_use g → rs ≡ fresh_registers (vertices_on b) (nv_on b) → none ≡ replicate 1_024 false
    → record { registers = rs; weights = g.weights; stalled = none; maximum = m } ≡ fresh_state g m
unfolding fresh_state in_use
fresh_made g m b rs none laid p q =
    let v : vertices_on b ≡ g.vertices = ap (λ (h : Graph). h.vertices) laid in
    let n : nv_on b ≡ min g.nv 256 = ap (λ (h : Graph). h.nv) laid in
    rw (p, q, v, n)

pub opens : (o : Opened) (bs : List ℕ) (s : State) → o ≡ opened bs → s ≡ first_state o.graph
    → record { graph = o.graph; state = s; opening = o.opening } ≡ decoder_of (opened bs)
opens o bs s p q = rw (q, ← p)

-- the board b is what is in use of g
module _ (g : Graph) (b : List ℕ) (laid : graph_on b ≡ in_use g) (s : State) where
  pub executes : (i : Instruction) (c : Cycle) → c ≡ instruct (graph_on b) s i → c ≡ instruct g s i
  executes i c e = e ∙ ap (λ (h : Graph). instruct h s i) laid ∙ instruct_again g s i

  pub words : (w : ℕ) (c : WordCycle) → c ≡ word_run (graph_on b) s w → c ≡ word_run g s w
  words w c e = e ∙ ap (λ (h : Graph). word_run h s w) laid ∙ word_again g s w

  pub searches_on : (c : Searched) → c ≡ search_on (graph_on b) s → c ≡ search_on g s
  searches_on c e = e ∙ ap (λ (h : Graph). search_on h s) laid ∙ search_again g s

  pub searches_to : (m : ℕ) (c : Searched) → c ≡ search_to (graph_on b) s m → c ≡ search_to g s m
  unfolding search_to
  searches_to m c e = e ∙ ap (λ (h : Graph). search_to h s m) laid ∙ rw (search_again g (with_maximum m s))

-- a state's pairs are those of its flags
pub lists : (s : State) (room : ℕ) (a : Listed) → a ≡ listed (with_pairs s.stalled) room → a ≡ listed s room
unfolding listed pairs
lists s room a e = e

pub buffers : (s : State) (x y : List ℕ) → y ≡ buffered (with_pairs s.stalled) x → y ≡ buffered s x
unfolding buffered pairs
buffers s x y e = e
