-- The spare bits of a word: those that its kind, as the table has it, does not use.
use Rattle.std.specs.Prelude.{ℕ, ◌+◌, ◌/◌, ◌%◌, ◌^◌, Bool, eqb, leb, ltb}
use Rattle.std.proofs.Math.Option.{Option, none, some}
use Rattle.laws.specs.Choice.{◌and◌, ◌or◌}
use Rattle.laws.specs.Mask.{mask_of}
use Rattle.rules.specs.Words.{field_at, kind_at, kind_of_word}
use Rattle.rules.specs.declared.instruction.Field.{Field}
use Rattle.rules.specs.declared.instruction.WordKind.{WordKind}

-- bit j of a word is 1
unfoldable pub is_set : ℕ → ℕ → Bool
is_set word j = eqb (word / 2 ^ j % 2) 1

unfoldable pub within : Field → ℕ → Bool
within f j = leb f.at j and ltb j (f.at + f.width)

-- a kind uses its low bits, its code and its fields
unfoldable pub uses : WordKind → ℕ → Bool
uses kind j = within (field_at 0 kind.lows) j or within (field_at 3 kind.codes) j or within kind.a j or within kind.b j

-- bit j is set where the kind uses it and the word has it
unfoldable pub used_bits : WordKind → ℕ → ℕ
used_bits kind word = mask_of 32 (λ j. uses kind j and is_set word j)

abbrev pub used_in : ℕ → Option ℕ → ℕ
used_in word none = word
used_in word (some k) = used_bits (kind_at k) word

-- the word with its spare bits zero
unfoldable pub spare_zero : ℕ → ℕ
spare_zero word = used_in word (kind_of_word word)
