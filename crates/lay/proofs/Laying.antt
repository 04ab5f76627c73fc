-- A graph's counts and tables, each copied to its place in a table.
use Rattle.std.proofs.Common.{ℕ, ◌+◌, ◌≤◌, ◌<◌, min, ◌≡◌, refl, ◌∙◌, List, [], ◌∷◌, arith, length, get_or, set, length-set}
use Rattle.rules.specs.Graph.{in_use}
use Rattle.rules.specs.declared.graph.Graph.{Graph}
use Rattle.board.specs.Board.{part, vertices_on, edges_on, units_on, defaults_on, nv_on, ne_on, nu_on, graph_on}
use Rattle.lay.proofs.Parts.{over, length_over, over_other, over_in, over_out}

-- ---- the counts

module _ (nv ne nu : ℕ) where
  abbrev pub counted : List ℕ → List ℕ
  counted t = set (set (set t 0 nv) 1 ne) 2 nu

  counts : (t : List ℕ) → 3 ≤ length t → (get_or (counted t) 0 0 ≡ nv) × (get_or (counted t) 1 0 ≡ ne) × (get_or (counted t) 2 0 ≡ nu)
  counts [] h = absurd (omega arith)
  counts (a ∷ []) h = absurd (omega arith)
  counts (a ∷ b ∷ []) h = absurd (omega arith)
  counts (a ∷ b ∷ c ∷ t) h = (refl, refl, refl)

  length_counted : (t : List ℕ) → length (counted t) ≡ length t
  length_counted t = length-set (set (set t 0 nv) 1 ne) 2 nu ∙ length-set (set t 0 nv) 1 ne ∙ length-set t 0 nv

-- ---- the tables

module _ (vs es us ws : List ℕ) (lv : length vs ≡ 256) (le : length es ≡ 1_024) (lu : length us ≡ 2_048) (lw : length ws ≡ 1_024) (b : List ℕ) (long : length b ≡ 8_720) where
  abbrev b1 : List ℕ
  b1 = over 16 256 b vs

  abbrev b2 : List ℕ
  b2 = over 528 1_024 b1 es

  abbrev b3 : List ℕ
  b3 = over 1_552 2_048 b2 us

  abbrev tabled : List ℕ
  tabled = over 7_696 1_024 b3 ws

  long1 : length b1 ≡ 8_720
  long1 = length_over 16 256 b vs lv (omega arith) ∙ long

  long2 : length b2 ≡ 8_720
  long2 = length_over 528 1_024 b1 es le (omega (arith, long1)) ∙ long1

  long3 : length b3 ≡ 8_720
  long3 = length_over 1_552 2_048 b2 us lu (omega (arith, long2)) ∙ long2

  -- a part that a later slice does not reach
  past_ws : (m l : ℕ) → m + l ≤ 7_696 → part m l tabled ≡ part m l b3
  past_ws m l h = over_out 7_696 1_024 b3 ws lw (omega (arith, long3)) m l (λ i u p q. omega arith)

  past_us : (m l : ℕ) → m + l ≤ 1_552 → part m l tabled ≡ part m l b2
  past_us m l h = past_ws m l (omega arith) ∙ over_out 1_552 2_048 b2 us lu (omega (arith, long2)) m l (λ i u p q. omega arith)

  past_es : (m l : ℕ) → m + l ≤ 528 → part m l tabled ≡ part m l b1
  past_es m l h = past_us m l (omega arith) ∙ over_out 528 1_024 b1 es le (omega (arith, long1)) m l (λ i u p q. omega arith)

  defaults_are : defaults_on tabled ≡ ws
  unfolding defaults_on
  defaults_are = over_in 7_696 1_024 b3 ws lw (omega (arith, long3))

  units_are : units_on tabled ≡ us
  unfolding units_on
  units_are = past_ws 2_048 1_552 (omega arith) ∙ over_in 1_552 2_048 b2 us lu (omega (arith, long2))

  edges_are : edges_on tabled ≡ es
  unfolding edges_on
  edges_are = past_us 1_024 528 (omega arith) ∙ over_in 528 1_024 b1 es le (omega (arith, long1))

  vertices_are : vertices_on tabled ≡ vs
  unfolding vertices_on
  vertices_are = past_es 256 16 (omega arith) ∙ over_in 16 256 b vs lv (omega (arith, long))

  front : (j : ℕ) → j < 16 → get_or tabled j 0 ≡ get_or b j 0
  front j l =
      over_other 7_696 1_024 b3 ws lw (omega (arith, long3)) j (λ p q. omega arith) ∙ over_other 1_552 2_048 b2 us lu (omega (arith, long2)) j (λ p q. omega arith)
      ∙ over_other 528 1_024 b1 es le (omega (arith, long1)) j (λ p q. omega arith) ∙ over_other 16 256 b vs lv (omega (arith, long)) j (λ p q. omega arith)

-- ---- the graph, as the code copies it: into the table t, from vs, es, us and ws

module _ (g : Graph) (t vs es us ws : List ℕ) (n m u : ℕ) (long : length t ≡ 8_720) (v : vs ≡ g.vertices) (e : es ≡ g.edges) (k : us ≡ g.units) (w : ws ≡ g.weights)
    (vl : length g.vertices ≡ 256) (el : length g.edges ≡ 1_024) (ul : length g.units ≡ 2_048) (wl : length g.weights ≡ 1_024) (en : n ≡ min g.nv 256) (em : m ≡ min g.ne 1_024) (eu : u ≡ min g.nu 2_048) where
  lv : length vs ≡ 256
  lv = rw v vl

  le : length es ≡ 1_024
  le = rw e el

  lu : length us ≡ 2_048
  lu = rw k ul

  lw : length ws ≡ 1_024
  lw = rw w wl

  start : length (counted n m u t) ≡ 8_720
  start = length_counted n m u t ∙ long

  abbrev made : List ℕ
  made = over 7_696 1_024 (over 1_552 2_048 (over 528 1_024 (over 16 256 (counted n m u t) vs) es) us) ws

  three : (get_or (counted n m u t) 0 0 ≡ n) × (get_or (counted n m u t) 1 0 ≡ m) × (get_or (counted n m u t) 2 0 ≡ u)
  three = counts n m u t (omega (arith, long))

  entry : (j : ℕ) → j < 16 → get_or made j 0 ≡ get_or (counted n m u t) j 0
  entry = front vs es us ws lv le lu lw (counted n m u t) start

  nv_is : min (nv_on made) 256 ≡ min g.nv 256
  nv_is = omega (arith, entry 0 (omega arith) ∙ three.0)

  ne_is : min (ne_on made) 1_024 ≡ min g.ne 1_024
  ne_is = omega (arith, entry 1 (omega arith) ∙ three.1)

  nu_is : min (nu_on made) 2_048 ≡ min g.nu 2_048
  nu_is = omega (arith, entry 2 (omega arith) ∙ three.2)

  pub copies : in_use (graph_on made) ≡ in_use g
  unfolding in_use
  copies =
      rw (
        nv_is,
        ne_is,
        nu_is,
        vertices_are vs es us ws lv le lu lw (counted n m u t) start,
        edges_are vs es us ws lv le lu lw (counted n m u t) start,
        units_are vs es us ws lv le lu lw (counted n m u t) start,
        defaults_are vs es us ws lv le lu lw (counted n m u t) start,
        v,
        e,
        k,
        w,
      )
