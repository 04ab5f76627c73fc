-- Texts for tables of examples: bytes from hex, and a listing's bytes from its characters.
use Prim.Native.Nat.{ℕ, ◌+◌, ◌*◌, ◌-◌}
use Prim.Native.Char.{code}
use Prim.Native.String.{String}
use Prim.Native.String as Chars
use mathlib.Core.Bool.{true, false}
use mathlib.Core.List.{List, [], ◌∷◌}
use lib.Dec.{eqb, ltb}
use Rattle.laws.specs.Choice.{pick}

-- the characters' numbers
abbrev pub text : String → List ℕ
text Chars.[] = []
text (Chars.◌∷◌ c s) = code c ∷ text s

-- the value of a hexadecimal digit, 0..9 or A..F
unfoldable hex_digit : ℕ → ℕ
unfolding pick
hex_digit c = pick (ltb c 58) (c - 48) (c - 55)

abbrev pub without_spaces : List ℕ → List ℕ
without_spaces [] = []
without_spaces (c ∷ cs) = elim (eqb c 32) [ true ↦ without_spaces cs | false ↦ c ∷ without_spaces cs ]

abbrev pub pair_up : List ℕ → List ℕ
unfolding hex_digit
pair_up [] = []
pair_up (c ∷ []) = []
pair_up (c ∷ d ∷ cs) = (hex_digit c * 16 + hex_digit d) ∷ pair_up cs

-- bytes written in hex, with spaces where one likes
unfoldable pub hex : String → List ℕ
unfolding hex_digit
hex s = pair_up (without_spaces (text s))
