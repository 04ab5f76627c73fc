-- All of an accepted image's graph is in use: the counts fit the tables, no edge is a loop, and none is an end's 17th.
use Rattle.std.proofs.Common.{◌≡◌, ℕ, zero, suc, ◌+◌, ◌*◌, ◌≤◌, ◌<◌, min, Bool, true, false, List, length, get_or, replicate, refl, arith}
use Rattle.std.proofs.Math.ListN.{length-replicate}
use Rattle.std.proofs.Math.Option.{none}
use Rattle.laws.specs.Choice.{◌and◌}
use Rattle.laws.specs.Fold.{up_to, count_to}
use Rattle.laws.specs.Leading.{leading_all}
use Rattle.laws.specs.Table.{paint, get_or_painted}
use Rattle.rules.specs.Graph.{left_of, right_of, touches, degree, fits, edges_in_use, in_use}
use Rattle.rules.specs.Image.{vertex_count, edge_count, unit_count, edge_left, edge_right, is_end, edges_at, image_refusal, offloading, condition, edge_word, unit_words, graph_of}
use Rattle.image_refusal.specs.Accepted.{head_passes, vertices_fit, edges_fit, edge_passes, ends_differ, left_room, right_room}
use Rattle.image.proofs.Ends.{left_low, right_low}
use Rattle.image.proofs.UnitSteps.{few_edges, few_units, short, units_on_lem, units_off}
use borrow.Author.Tests.{lt-ltb}

count_same : (p q : ℕ → Bool) (n : ℕ) → ((k : ℕ) → k < n → p k ≡ q k) → count_to p n ≡ count_to q n
unfolding up_to
count_same p q zero h = refl
count_same p q (suc n) h = rw (h n (omega arith), count_same p q n (λ k l. h k (omega arith)))

module _ (bs : List ℕ) (ok : image_refusal bs ≡ none) where
  few : (b : Bool) → offloading bs ≡ b → length (unit_words bs) ≤ 2_048
  few true h = rw (units_on_lem bs h) (omega (arith, short bs (unit_count bs) (edge_count bs), few_edges bs ok, few_units bs ok))
  few false h = rw (units_off bs h) (omega arith)

  units_in_use : length (unit_words bs) ≤ 2_048
  units_in_use = few (offloading bs) refl

  -- ---- the edges

  abbrev es : List ℕ
  es = paint (edge_count bs) (edge_word bs) (replicate 1_024 0)

  module _ (e : ℕ) (l : e < edge_count bs) where
    word : get_or es e 0 ≡ edge_left bs e + edge_right bs e * 256 + condition bs e * 65_536
    unfolding edge_word
    word =
        get_or_painted (edge_word bs) (edge_count bs) (replicate 1_024 0) e 0 l
        (rw (length-replicate 1_024) (omega (arith, edges_fit bs (head_passes bs ok))))

    left_is : left_of es e ≡ edge_left bs e
    unfolding left_of
    left_is = rw word (omega (arith, left_low bs e ok l))

    right_is : right_of es e ≡ edge_right bs e
    unfolding right_of
    right_is = rw word (omega (arith, left_low bs e ok l, right_low bs e ok l))

    touches_is : (v : ℕ) → touches es v e ≡ is_end bs v e
    unfolding touches is_end
    touches_is v = rw (left_is, right_is)

  degree_is : (n v : ℕ) → n ≤ edge_count bs → degree es n v ≡ edges_at bs n v
  unfolding degree edges_at
  degree_is n v l = count_same (touches es v) (is_end bs v) n (λ k h. touches_is k (omega arith) v)

  edge_fits : (e : ℕ) → e < edge_count bs → fits es e ≡ true
  unfolding fits ◌and◌
  edge_fits e l =
      let p = edge_passes bs ok e l in
      rw (
        left_is e l,
        right_is e l,
        degree_is e (edge_left bs e) (omega arith),
        degree_is e (edge_right bs e) (omega arith),
        ends_differ bs e p,
        lt-ltb _ 16 (left_room bs e p),
        lt-ltb _ 16 (right_room bs e p),
      )

  pub graph_in_use : in_use (graph_of bs) ≡ graph_of bs
  unfolding in_use graph_of edges_in_use
  graph_in_use =
      let v : min (vertex_count bs) 256 ≡ vertex_count bs = omega (arith, vertices_fit bs (head_passes bs ok)) in
      let e : min (edge_count bs) 1_024 ≡ edge_count bs = omega (arith, edges_fit bs (head_passes bs ok)) in
      let u : min (length (unit_words bs)) 2_048 ≡ length (unit_words bs) = omega (arith, units_in_use) in
      rw (v, e, u, leading_all (fits es) (edge_count bs) edge_fits)
