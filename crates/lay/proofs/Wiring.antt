-- The board after each edge, and after all of them.
use Rattle.std.proofs.Common.{ℕ, ◌+◌, ◌*◌, ◌≤◌, ◌<◌, min, ◌≡◌, refl, sym, ◌∙◌, Bool, true, false, List, [], ◌∷◌, arith, length, get_or, set, length-set, replicate, take, drop, length-take, length-drop, get_or-set_other}
use lib.ListN.{length-replicate}
use Rattle.rules.specs.Graph.{edges_in_use, in_use}
use Rattle.places.specs.Ends.{ends, left, right, beyond}
use Rattle.places.specs.Places.{places_of, degrees_of}
use Rattle.places.specs.Wired.{wired_within}
use Rattle.board.specs.Board.{part, vertices_on, degrees_on, edges_on, units_on, places_on, defaults_on, nv_on, ne_on, nu_on, reach_on, graph_on, Laid}
use Rattle.lay.specs.Put.{taken, has_room, put_on}
use Rattle.lay.specs.Placing.{Cleared, Kept, Placing, PlacedAll}
use Rattle.lay.proofs.Parts.{part_same, store_in, store_out, over, length_over, over_other, over_in, over_out}
use Rattle.lay.proofs.Room.{left_room, right_room}
use Rattle.lay.proofs.Turns.{start_degrees, start_places, start_reach, start_use, turn_reach, turn_use, turn_degrees, turn_places, stops}

-- ---- what is kept

module _ {b r : List ℕ} (k : Kept b r) where
  pub vertices_kept : vertices_on r ≡ vertices_on b
  unfolding vertices_on
  vertices_kept = part_same 256 16 b r (λ i l. k.same (i + 16) (λ p q. omega arith) (λ p q. omega arith))

  pub edges_kept : edges_on r ≡ edges_on b
  unfolding edges_on
  edges_kept = part_same 1_024 528 b r (λ i l. k.same (i + 528) (λ p q. omega arith) (λ p q. omega arith))

  pub units_kept : units_on r ≡ units_on b
  unfolding units_on
  units_kept = part_same 2_048 1_552 b r (λ i l. k.same (i + 1_552) (λ p q. omega arith) (λ p q. omega arith))

  pub defaults_kept : defaults_on r ≡ defaults_on b
  unfolding defaults_on
  defaults_kept = part_same 1_024 7_696 b r (λ i l. k.same (i + 7_696) (λ p q. omega arith) (λ p q. omega arith))

  kept_degree : (v x : ℕ) → v < 256 → Kept b (set r (v + 272) x)
  kept_degree v x l = record {
    long = length-set r (v + 272) x ∙ k.long;
    same = λ j p q. get_or-set_other r (v + 272) j x 0 (λ e. p (omega arith) (omega arith)) ∙ k.same j p q;
  }

  kept_place : (p x : ℕ) → p < 4_096 → Kept b (set r (p + 3_600) x)
  kept_place p x l = record {
    long = length-set r (p + 3_600) x ∙ k.long;
    same = λ j u q. get_or-set_other r (p + 3_600) j x 0 (λ e. q (omega arith) (omega arith)) ∙ k.same j u q;
  }

-- ---- a degree or a place stored

module _ (r : List ℕ) (long : length r ≡ 8_720) where
  degree_stored : (v x : ℕ) → v < 256 → degrees_on (set r (v + 272) x) ≡ set (degrees_on r) v x
  unfolding degrees_on
  degree_stored v x l = store_in 256 272 r v x l (omega arith)

  degrees_past : (p x : ℕ) → degrees_on (set r (p + 3_600) x) ≡ degrees_on r
  unfolding degrees_on
  degrees_past p x = store_out 256 272 r (p + 3_600) x (λ l h. omega arith)

  place_stored : (p x : ℕ) → p < 4_096 → places_on (set r (p + 3_600) x) ≡ set (places_on r) p x
  unfolding places_on
  place_stored p x l = store_in 4_096 3_600 r p x l (omega arith)

  places_past : (v x : ℕ) → v < 256 → places_on (set r (v + 272) x) ≡ places_on r
  unfolding places_on
  places_past v x l = store_out 4_096 3_600 r (v + 272) x (λ u h. omega arith)

-- ---- one edge more, at places p and q of v and w

module _ (b r : List ℕ) (k : Kept b r) (p q x y v w d d' : ℕ) (lp : p < 4_096) (lq : q < 4_096) (lv : v < 256) (lw : w < 256) where
  abbrev r1 : List ℕ
  r1 = set r (p + 3_600) x

  abbrev r2 : List ℕ
  r2 = set r1 (q + 3_600) y

  abbrev r3 : List ℕ
  r3 = set r2 (v + 272) d

  abbrev r4 : List ℕ
  r4 = set r3 (w + 272) d'

  k1 : Kept b r1
  k1 = kept_place k p x lp

  k2 : Kept b r2
  k2 = kept_place k1 q y lq

  k3 : Kept b r3
  k3 = kept_degree k2 v d lv

  four_kept : Kept b r4
  four_kept = kept_degree k3 w d' lw

  four_degrees : degrees_on r4 ≡ set (set (degrees_on r) v d) w d'
  four_degrees =
      degree_stored r3 k3.long w d' lw
      ∙ rw (degree_stored r2 k2.long v d lv, degrees_past r1 k1.long q y, degrees_past r k.long p x)

  four_places : places_on r4 ≡ set (set (places_on r) p x) q y
  four_places =
      places_past r3 k3.long w d' lw ∙ places_past r2 k2.long v d lv
      ∙ place_stored r1 k1.long q y lq ∙ rw (place_stored r k.long p x lp)

module _ (b r : List ℕ) (e s w : ℕ) (g : Placing b r e s) (at : w ≡ get_or (edges_on r) e 0) where
  abbrev es : List ℕ
  es = edges_on b

  word_is : w ≡ get_or es e 0
  word_is = rw (← edges_kept g.kept) at

  module _ (h : has_room r w ≡ true) where
    lp : left w * 16 + taken r (left w) < 4_096
    lp = omega (arith, left_room r w h _ refl)

    lq : right w * 16 + taken r (right w) < 4_096
    lq = omega (arith, right_room r w h _ refl)

    has : has_room r (get_or es e 0) ≡ true
    has = rw (← word_is) h

    put_kept : Kept b (put_on r e w)
    unfolding put_on
    put_kept =
        four_kept b r g.kept (left w * 16 + taken r (left w)) (right w * 16 + taken r (right w)) (e + right w * 1_024) (e + left w * 1_024)
        (left w) (right w) (taken r (left w) + 1) (taken r (right w) + 1) lp lq (omega arith) (omega arith)

    put_degrees : degrees_on (put_on r e w) ≡ set (set (degrees_on r) (left w) (taken r (left w) + 1)) (right w) (taken r (right w) + 1)
    unfolding put_on
    put_degrees =
        four_degrees b r g.kept (left w * 16 + taken r (left w)) (right w * 16 + taken r (right w)) (e + right w * 1_024) (e + left w * 1_024)
        (left w) (right w) (taken r (left w) + 1) (taken r (right w) + 1) lp lq (omega arith) (omega arith)

    put_places : places_on (put_on r e w)
        ≡ set (set (places_on r) (left w * 16 + taken r (left w)) (e + right w * 1_024)) (right w * 16 + taken r (right w)) (e + left w * 1_024)
    unfolding put_on
    put_places =
        four_places b r g.kept (left w * 16 + taken r (left w)) (right w * 16 + taken r (right w)) (e + right w * 1_024) (e + left w * 1_024)
        (left w) (right w) (taken r (left w) + 1) (taken r (right w) + 1) lp lq (omega arith) (omega arith)

    pub placed_one : (s' : ℕ) → s' ≡ beyond s w → Placing b (put_on r e w) (e + 1) s'
    placed_one s' x = record {
      kept = put_kept;
      used = turn_use es e r g.degrees has g.used;
      degrees = put_degrees ∙ rw word_is (turn_degrees es e r g.degrees has);
      places = put_places ∙ rw word_is (turn_places es e r g.degrees has (places_on r) g.places);
      reached = turn_reach es e s s' (rw (← word_is) x) g.reached;
    }

-- ---- the loop

pub start : (b : List ℕ) → Cleared b → Placing b b 0 0
start b c = record {
  kept = record { long = c.long; same = λ j p q. refl };
  used = start_use (edges_on b);
  degrees = c.degrees ∙ start_degrees (edges_on b);
  places = c.places ∙ start_places (edges_on b);
  reached = start_reach (edges_on b);
}

-- the stores stand first: they name the rest
pub turn : (b r : List ℕ) (e s s' w : ℕ) (t : Bool) {r' : List ℕ} → r' ≡ put_on r e w → Placing b r e s → w ≡ get_or (edges_on r) e 0 → t ≡ has_room r w → t ≡ true
    → s' ≡ beyond s w → Placing b r' (e + 1) s'
turn b r e s s' w t p g at x h y = rw p (placed_one b r e s w g at (sym x ∙ h) s' y)

near : {b r : List ℕ} {e s : ℕ} → Placing b r e s → s ≤ 256
near {b} {r} {e} g = rw g.reached (ends (edges_on b) e).small

pub stop : (b r : List ℕ) (e s w n : ℕ) (t : Bool) → Placing b r e s → w ≡ get_or (edges_on r) e 0 → t ≡ has_room r w → t ≡ false → e < n → n ≡ ne_on b → PlacedAll b r e s
stop b r e s w n t g at x h l m = record {
  placing = g;
  all = sym (stops (edges_on b) e r g.degrees (ne_on b) (rw (← word_is b r e s w g at) (sym x ∙ h)) g.used (omega arith));
  few = omega arith;
  near = near g;
}

pub done : (b r : List ℕ) (e s n : ℕ) → Placing b r e s → e ≤ n → n ≤ e → n ≡ ne_on b → PlacedAll b r e s
done b r e s n g l h m = record { placing = g; all = let z : ne_on b ≡ e = omega arith in rw z (sym g.used); few = omega arith; near = near g }

pub ruleset placings = (start, turn, stop, done)

-- ---- cleared: degrees first, then places

module _ (b xs ys : List ℕ) where
  abbrev pub once : List ℕ
  once = over 272 256 b xs

  abbrev pub twice : List ℕ
  twice = over 3_600 4_096 once ys

  module _ (e : xs ≡ replicate (length (take 256 (drop 272 b))) 0) (f : ys ≡ replicate (length (take 4_096 (drop 3_600 once))) 0) (long : length b ≡ 8_720) where
    xs_is : xs ≡ replicate 256 0
    xs_is = let n : length (take 256 (drop 272 b)) ≡ 256 = omega (arith, long, length-take 256 (drop 272 b), length-drop 272 b) in rw n at e

    xs_long : length xs ≡ 256
    xs_long = rw xs_is (length-replicate {A = ℕ} 256 0)

    once_long : length once ≡ 8_720
    once_long = length_over 272 256 b xs xs_long (omega (arith, long)) ∙ long

    ys_is : ys ≡ replicate 4_096 0
    ys_is = let n : length (take 4_096 (drop 3_600 once)) ≡ 4_096 = omega (arith, once_long, length-take 4_096 (drop 3_600 once), length-drop 3_600 once) in rw n at f

    ys_long : length ys ≡ 4_096
    ys_long = rw ys_is (length-replicate {A = ℕ} 4_096 0)

    room : 4_096 + 3_600 ≤ length once
    room = omega (arith, once_long)

    pub cleared : Cleared twice
    unfolding degrees_on places_on
    cleared = record {
      long = length_over 3_600 4_096 once ys ys_long room ∙ once_long;
      degrees = over_out 3_600 4_096 once ys ys_long room 256 272 (λ i l u h. omega arith) ∙ over_in 272 256 b xs xs_long (omega (arith, long)) ∙ xs_is;
      places = over_in 3_600 4_096 once ys ys_long room ∙ ys_is;
    }

    cleared_kept : Kept b twice
    cleared_kept = record {
      long = cleared.long;
      same = λ j x y. over_other 3_600 4_096 once ys ys_long room j (λ l h. y l (omega arith)) ∙ over_other 272 256 b xs xs_long (omega (arith, long)) j (λ l h. x l (omega arith));
    }

-- ---- the counts

module _ (nv ne nu reach : ℕ) where
  abbrev counted : List ℕ → List ℕ
  counted t = set (set (set (set t 0 nv) 1 ne) 2 nu) 3 reach

  counts : (t : List ℕ) → 4 ≤ length t → (get_or (counted t) 0 0 ≡ nv) × (get_or (counted t) 1 0 ≡ ne) × (get_or (counted t) 2 0 ≡ nu) × (get_or (counted t) 3 0 ≡ reach)
  counts [] h = absurd (omega arith)
  counts (a ∷ []) h = absurd (omega arith)
  counts (a ∷ b ∷ []) h = absurd (omega arith)
  counts (a ∷ b ∷ c ∷ []) h = absurd (omega arith)
  counts (a ∷ b ∷ c ∷ d ∷ t) h = (refl, refl, refl, refl)

  part_counted : (n k : ℕ) (t : List ℕ) → 4 ≤ k → part n k (counted t) ≡ part n k t
  part_counted n k t h =
      store_out n k (set (set (set t 0 nv) 1 ne) 2 nu) 3 reach (λ l u. omega arith) ∙ store_out n k (set (set t 0 nv) 1 ne) 2 nu (λ l u. omega arith)
      ∙ store_out n k (set t 0 nv) 1 ne (λ l u. omega arith) ∙ store_out n k t 0 nv (λ l u. omega arith)

-- ---- the whole

module _ (b c r : List ℕ) (nv ne nu reach : ℕ) (k : Kept b c) (g : PlacedAll c r ne reach) (ev : nv ≡ nv_on b) (eu : nu ≡ nu_on b) where
  abbrev out : List ℕ
  out = counted nv ne nu reach r

  four : (get_or out 0 0 ≡ nv) × (get_or out 1 0 ≡ ne) × (get_or out 2 0 ≡ nu) × (get_or out 3 0 ≡ reach)
  four = counts nv ne nu reach r (omega (arith, g.placing.kept.long))

  edges_out : edges_on out ≡ edges_on c
  unfolding edges_on
  edges_out = part_counted nv ne nu reach 1_024 528 r (omega arith) ∙ edges_kept g.placing.kept

  vertices_out : vertices_on out ≡ vertices_on b
  unfolding vertices_on
  vertices_out = part_counted nv ne nu reach 256 16 r (omega arith) ∙ vertices_kept g.placing.kept ∙ vertices_kept k

  units_out : units_on out ≡ units_on b
  unfolding units_on
  units_out = part_counted nv ne nu reach 2_048 1_552 r (omega arith) ∙ units_kept g.placing.kept ∙ units_kept k

  defaults_out : defaults_on out ≡ defaults_on b
  unfolding defaults_on
  defaults_out = part_counted nv ne nu reach 1_024 7_696 r (omega arith) ∙ defaults_kept g.placing.kept ∙ defaults_kept k

  degrees_out : degrees_on out ≡ degrees_of (edges_on c) ne
  unfolding degrees_on
  degrees_out = part_counted nv ne nu reach 256 272 r (omega arith) ∙ g.placing.degrees

  places_out : places_on out ≡ places_of (edges_on c) ne
  unfolding places_on
  places_out = part_counted nv ne nu reach 4_096 3_600 r (omega arith) ∙ g.placing.places

  ne_out : ne_on out ≡ ne
  ne_out = omega (arith, four.1, g.few)

  reach_out : reach_on out ≡ reach
  reach_out = omega (arith, four.3, g.near)

  is_laid : Laid out
  is_laid = record {
    wired =
        rw (edges_out, ne_out) (wired_within (edges_on c) (ne_on c) ne (omega arith) g.all places_out degrees_out);
    ends = rw (edges_out, ne_out, reach_out, g.placing.reached) (ends (edges_on c) ne);
  }

  ne_kept : ne_on c ≡ ne_on b
  ne_kept = omega (arith, k.same 1 (λ p q. omega arith) (λ p q. omega arith))

  ne_is : ne_on out ≡ edges_in_use (edges_on b) (min (ne_on b) 1_024)
  ne_is = let z : min (ne_on b) 1_024 ≡ ne_on b = omega arith in ne_out ∙ g.all ∙ rw (z, edges_kept k, ne_kept)

  nv_is : nv_on out ≡ min (nv_on b) 256
  nv_is = omega (arith, four.0)

  nu_is : nu_on out ≡ min (nu_on b) 2_048
  nu_is = omega (arith, four.2)

  is_graph : graph_on out ≡ in_use (graph_on b)
  unfolding in_use
  is_graph = rw (nv_is, ne_is, nu_is, vertices_out, edges_out, edges_kept k, units_out, defaults_out)

-- as the code does it, step by step
pub wires : (b xs ys r : List ℕ) (nv ne nu reach : ℕ) → xs ≡ replicate (length (take 256 (drop 272 b))) 0 → ys ≡ replicate (length (take 4_096 (drop 3_600 (once b xs ys)))) 0
    → length b ≡ 8_720 → PlacedAll (twice b xs ys) r ne reach → nv ≡ nv_on b → nu ≡ nu_on b
    → Laid (counted nv ne nu reach r) × (graph_on (counted nv ne nu reach r) ≡ in_use (graph_on b))
wires b xs ys r nv ne nu reach e f long g ev eu =
    let k = cleared_kept b xs ys e f long in (is_laid b (twice b xs ys) r nv ne nu reach k g ev eu, is_graph b (twice b xs ys) r nv ne nu reach k g ev eu)
