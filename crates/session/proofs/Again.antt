-- A chunk on what is in use of a graph is the chunk on the graph: each of its calls is.
use Prim.Native.Nat.{ℕ}
use mathlib.Core.Path.{◌≡◌, refl, ap, ◌∙◌}
use mathlib.Core.List.{List}
use mathlib.Core.Option.{Option, none, some}
use Rattle.rules.specs.Graph.{in_use}
use Rattle.rules.specs.Run.{Call}
use Rattle.rules.specs.declared.graph.Graph.{Graph}
use Rattle.rules.specs.declared.state.State.{State}
use Rattle.comb_lent.specs.Again.{call_again}
use Rattle.board.specs.Board.{graph_on}
use Rattle.laws.specs.Placed as Placed
use Rattle.listing.specs.Lines.{longest_pairs}
use Rattle.records.specs.Chunks.{Chunk}
use Rattle.records.specs.Session.{behind, call_of, acted_by, acted}
use Rattle.records.proofs.Chunks.{chunk_same}
use Rattle.session.specs.Chunk.{chunk, done_of}
use Rattle.session.specs.declared.Done.{Done}

module _ (g : Graph) where
  by_call : (s : State) (q : Option Call) → acted_by (in_use g) s q ≡ acted_by g s q
  unfolding acted_by
  by_call s none = refl
  by_call s (some q) = rw (call_again g s q)

  chunk_again : (s : State) (room : ℕ) (bs : List ℕ) → chunk (in_use g) s room bs ≡ chunk g s room bs
  chunk_again s room bs = chunk_same (acted (in_use g)) (acted g) (λ t r. by_call t (call_of r)) longest_pairs behind s room bs

-- so is the chunk on the board that is made of the graph
module _ (g : Graph) (b : List ℕ) (laid : graph_on b ≡ in_use g) (s : State) (room : ℕ) (bs : List ℕ) where
  lent_chunk : chunk (graph_on b) s room bs ≡ chunk g s room bs
  lent_chunk = ap (λ (h : Graph). chunk h s room bs) laid ∙ chunk_again g s room bs

  pub lent_done : (r : Done) → r ≡ done_of (chunk (graph_on b) s room bs) → r ≡ done_of (chunk g s room bs)
  lent_done r e = e ∙ ap done_of lent_chunk

  pub lent_text : (x y : List ℕ) → y ≡ Placed.placed 0 (chunk (graph_on b) s room bs).text x
      → y ≡ Placed.placed 0 (chunk g s room bs).text x
  lent_text x y e = e ∙ ap (λ (d : Chunk State). Placed.placed 0 d.text x) lent_chunk
