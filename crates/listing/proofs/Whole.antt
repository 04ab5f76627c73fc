-- A line where there is room, and nothing where there is none.
use Rattle.std.proofs.Common.{ℕ, ◌+◌, ◌-◌, ◌≤◌, ◌<◌, ◌≡◌, List, [], ◌∷◌, ◌++◌, length, refl, sym, ap, ◌∙◌, arith, append_assoc, append-nil}
use Rattle.laws.specs.Choice.{pick}
use Rattle.laws.specs.Placed.{Wrote}
use Rattle.rules.specs.Listing.{digits, decimal, number, numbers, line, refusal_text}
use Rattle.rules.specs.declared.refusal.Refusal.TheVariants.{SessionRecord}
use Rattle.listing.specs.Heads.{head_text}
use Rattle.listing.specs.Lines.{line_end, line_in, end_with_room, in_with_room, end_without_room, in_without_room}

module _ (most at left : ℕ) (text x : List ℕ) (behind : left ≡ length x - at) where
  pub same_end : left < most → at ≡ line_end most at text x
  same_end h = sym (end_without_room most at text x (omega arith))

  pub same_buffer : left < most → x ≡ line_in most at text x
  same_buffer h = sym (in_without_room most at text x (omega arith))

  module _ {next : ℕ} {z : List ℕ} (w : Wrote text at x next z) where
    has_room : most ≤ left → at + most ≤ length x
    has_room h = omega (arith, w.end, w.inside)

    pub new_end : most ≤ left → next ≡ line_end most at text x
    new_end h = w.end ∙ sym (end_with_room most at text x (has_room h))

    pub new_buffer : most ≤ left → z ≡ line_in most at text x
    new_buffer h = w.bytes ∙ sym (in_with_room most at text x (has_room h))

three_numbers : (a b c : List ℕ) → a ++ (b ++ (c ++ [])) ≡ a ++ b ++ c
three_numbers a b c = simp (append_assoc, append-nil)

-- the version's number is the one digit put with the mark
pub head_is : (v e u : ℕ) → (68 ∷ 67 ∷ 84 ∷ 32 ∷ 49 ∷ []) ++ numbers (v ∷ e ∷ u ∷ []) ≡ head_text v e u
unfolding decimal digits pick
head_is v e u = ap (λ text. 68 ∷ 67 ∷ 84 ∷ 32 ∷ 49 ∷ text) (three_numbers (number v) (number e) (number u))

pub ruleset without_room = (same_end, same_buffer)

-- "18: session record cut short or of another kind", written as one text
pub is_eighteen : 114 ∷ 32 ∷ 49 ∷ 56 ∷ 10 ∷ [] ≡ line (refusal_text SessionRecord)
unfolding decimal digits pick
is_eighteen = refl
