-- What a listing starts with, without its line's end.
use Rattle.std.specs.Prelude.{ℕ, ◌≡◌, refl, List, ◌∷◌, ◌++◌, Err}
use Rattle.rules.specs.Listing.{number, line, first_line, listing_of}
use Rattle.rules.specs.Numbers.{refusal_number}
use Rattle.rules.specs.declared.graph.Graph.{Graph}
use Rattle.rules.specs.declared.refusal.Refusal.{Refusal}

-- "mark, version, V, E, U"
abbrev pub head_text : ℕ → ℕ → ℕ → List ℕ
head_text v e u = 68 ∷ 67 ∷ 84 ∷ (number 1 ++ number v ++ number e ++ number u)

-- "`bad` and the number"
abbrev pub bad_text : Refusal → List ℕ
bad_text r = 98 ∷ 97 ∷ 100 ∷ number (refusal_number r)

-- these are the listing's own
pub first_is_head : (v e u : ℕ) → first_line v e u ≡ line (head_text v e u)
first_is_head v e u = refl

pub refused_is_bad : (bs : List ℕ) (g : Graph) (r : Refusal) → listing_of bs g (Err r) ≡ line (bad_text r)
refused_is_bad bs g r = refl
