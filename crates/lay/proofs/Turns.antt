-- What one edge more does to the degrees and places, over variables: the code's test is `fits`, and its stores are one edge more.
use Rattle.std.proofs.Common.{ℕ, ◌+◌, ◌*◌, ◌<◌, ◌≡◌, refl, sym, ◌∙◌, true, false, List, add-one, arith, length, get_or, set, replicate}
use Rattle.laws.specs.Fold.{up_to}
use Rattle.laws.specs.Leading.{leading_none, leading_pass, leading_stop}
use Rattle.laws.specs.Listed.{indices}
use Rattle.laws.specs.Stored.{blank_table}
use Rattle.rules.specs.Graph.{left_of, right_of, degree, fits, edges_in_use}
use Rattle.places.specs.Ends.{left, right, beyond, reach_of}
use Rattle.places.specs.Places.{touching, place_at, places_of, degrees_of}
use Rattle.places.specs.Tie.{length_touching, degree_at}
use Rattle.board.specs.Board.{part_at, degrees_on}
use Rattle.lay.specs.Put.{taken, has_room}
use Rattle.lay.proofs.Grown.{more_degrees, more_places}
use Rattle.lay.proofs.Room.{apart, left_room, right_room}

module _ (es : List ℕ) where
  pub start_degrees : replicate 256 0 ≡ degrees_of es 0
  unfolding degrees_of touching indices
  start_degrees = blank_table 256 0

  pub start_places : replicate 4_096 0 ≡ places_of es 0
  unfolding places_of place_at touching indices
  start_places = blank_table 4_096 0

  pub start_reach : 0 ≡ reach_of es 0
  unfolding reach_of up_to
  start_reach = refl

  pub start_use : edges_in_use es 0 ≡ 0
  unfolding edges_in_use
  start_use = leading_none (fits es)

  pub turn_reach : (e r s : ℕ) → s ≡ beyond r (get_or es e 0) → r ≡ reach_of es e → s ≡ reach_of es (e + 1)
  unfolding reach_of up_to
  turn_reach e r s x h = rw (add-one e, ← h) x

module _ (es : List ℕ) (e : ℕ) (r : List ℕ) (d : degrees_on r ≡ degrees_of es e) where
  abbrev word : ℕ
  word = get_or es e 0

  taken_is : (v : ℕ) → v < 256 → taken r v ≡ get_or (degrees_on r) v 0
  unfolding degrees_on
  taken_is v l = part_at 256 272 r v l

  left_degree : taken r (left_of es e) ≡ degree es e (left_of es e)
  unfolding left_of
  left_degree = taken_is (left_of es e) (omega arith) ∙ rw d (degree_at es e (left_of es e) (omega arith))

  right_degree : taken r (right_of es e) ≡ degree es e (right_of es e)
  unfolding right_of
  right_degree = taken_is (right_of es e) (omega arith) ∙ rw d (degree_at es e (right_of es e) (omega arith))

  fits_is : fits es e ≡ has_room r word
  unfolding fits has_room left_of right_of
  fits_is = rw (left_degree, right_degree)

  pub stops : (m : ℕ) → has_room r word ≡ false → edges_in_use es e ≡ e → e < m → edges_in_use es m ≡ e
  unfolding edges_in_use
  stops m h u i = leading_stop (fits es) e m u (fits_is ∙ h) i

  module _ (h : has_room r word ≡ true) where
    left_size : taken r (left_of es e) ≡ length (touching es e (left_of es e))
    left_size = left_degree ∙ sym (length_touching es e (left_of es e))

    right_size : taken r (right_of es e) ≡ length (touching es e (right_of es e))
    right_size = right_degree ∙ sym (length_touching es e (right_of es e))

    ends_apart : left_of es e ≡ right_of es e → ⊥
    unfolding left_of right_of
    ends_apart = apart r word h

    left_free : length (touching es e (left_of es e)) < 16
    unfolding left_of
    left_free = rw left_size at (left_room r word h _ refl)

    right_free : length (touching es e (right_of es e)) < 16
    unfolding right_of
    right_free = rw right_size at (right_room r word h _ refl)

    pub turn_use : edges_in_use es e ≡ e → edges_in_use es (e + 1) ≡ e + 1
    unfolding edges_in_use
    turn_use u = leading_pass (fits es) e u (fits_is ∙ h)

    pub turn_degrees : set (set (degrees_on r) (left word) (taken r (left word) + 1)) (right word) (taken r (right word) + 1) ≡ degrees_of es (e + 1)
    unfolding left_of right_of
    turn_degrees = rw (left_size, right_size, d) (more_degrees es e ends_apart)

    pub turn_places : (ps : List ℕ) → ps ≡ places_of es e
        → set (set ps (left word * 16 + taken r (left word)) (e + right word * 1_024)) (right word * 16 + taken r (right word)) (e + left word * 1_024) ≡ places_of es (e + 1)
    unfolding left_of right_of
    turn_places ps o = rw (left_size, right_size, o) (more_places es e ends_apart left_free right_free)
