-- What the test for room says part by part, of the ends l and r.
use Rattle.std.proofs.Common.{ℕ, ◌<◌, ◌≡◌, true, List, eqb, ltb-true}
use borrow.Author.Tests.{eqb-false, not-true}
use Rattle.laws.specs.Choice.{and_left, and_right}
use Rattle.places.specs.Ends.{left, right}
use Rattle.lay.specs.Put.{taken, has_room}

module _ (b : List ℕ) (w : ℕ) (h : has_room b w ≡ true) where
  pub apart : left w ≡ right w → ⊥
  unfolding has_room
  apart = eqb-false (left w) (right w) (not-true (eqb (left w) (right w)) (and_left _ _ (and_left _ _ h)))

  pub left_room : (l : ℕ) → l ≡ left w → taken b l < 16
  unfolding has_room
  left_room l e = rw e (ltb-true _ _ (and_right _ _ (and_left _ _ h)))

  pub right_room : (r : ℕ) → r ≡ right w → taken b r < 16
  unfolding has_room
  right_room r e = rw e (ltb-true _ _ (and_right _ _ h))

pub ruleset rooms = (left_room, right_room)
