-- Document 01, "Words": what a word asks, and the word that asks it.
use Rattle.std.specs.Prelude.{ℕ, ◌+◌, ◌*◌, ◌/◌, ◌%◌, ◌^◌, Bool, true, List, [], ◌∷◌, eqb, leb, get_or}
use Rattle.std.proofs.Math.Option.{Option, none, some}
use Rattle.laws.specs.Choice.{◌and◌, pick}
use Rattle.laws.specs.First.{first}
use Rattle.rules.specs.Numbers.{speed_code}
use Rattle.rules.specs.declared.index.NodeIndex.{NodeIndex}
use Rattle.rules.specs.declared.instruction.CompactGrowState.TheVariants.{Stay, Grow, Shrink}
use Rattle.rules.specs.declared.instruction.Instruction.{Instruction}
use Rattle.rules.specs.declared.instruction.Instruction.TheVariants.{SetSpeed, SetBlossom, AddDefectVertex, FindObstacle, Grow as GrowBy, LoadDefectsExternal}
use Rattle.rules.specs.declared.instruction.Field.{Field}
use Rattle.rules.specs.declared.instruction.WordKind.{WordKind}
use Rattle.rules.specs.Types.{Packed, Unpacked}
use Rattle.std.specs.Prelude.{Err, Ok}
use Rattle.rules.specs.declared.instruction.Asked.TheVariants.{Says, Reset}
use Rattle.rules.specs.declared.refusal.Refusal.TheVariants.{NotCarried, OutOfBounds}

-- the number that stands in a field of a word
unfoldable pub field_of : Field → ℕ → ℕ
field_of f word = word / 2 ^ f.at % 2 ^ f.width

-- ---- the table of word kinds

abbrev pub field_at : ℕ → ℕ → Field
field_at at width = record { at = at; width = width }

-- "Field A is bits 17..31, B bits 2..16"
abbrev pub field_a : Field
field_a = field_at 17 15

abbrev pub field_b : Field
field_b = field_at 2 15

-- a kind without a field has an empty one above its code
abbrev pub no_field : Field
no_field = field_at 6 0

-- low bits and how many there are, code and how many bits it has
abbrev pub kind_of : ℕ → ℕ → ℕ → ℕ → Field → Field → WordKind
kind_of low lows code codes a b = record { low = low; lows = lows; code = code; codes = codes; a = a; b = b }

abbrev pub kinds : List WordKind
kinds =
    -- "SetSpeed: A node, speed bits 15..16, low bits 000"
    kind_of 0 3 0 0 field_a (field_at 15 2)
    -- "SetBlossom: A node, B blossom, low 01"
    ∷ kind_of 1 2 0 0 field_a field_b
    -- "AddDefectVertex: A vertex, B node, low 10"
    ∷ kind_of 2 2 0 0 field_a field_b
    -- "Extended, low bits 100, code in bits 3..5: 0 FindObstacle, 4 reset, 5 load (A layer), 6 Grow (length bits 6..31)"
    ∷ kind_of 4 3 0 3 no_field no_field
    ∷ kind_of 4 3 4 3 no_field no_field
    ∷ kind_of 4 3 5 3 field_a no_field
    ∷ kind_of 4 3 6 3 (field_at 6 26) no_field
    ∷ []

abbrev pub kind_at : ℕ → WordKind
kind_at k = get_or kinds k (kind_of 0 0 0 0 (field_at 0 0) (field_at 0 0))

-- ---- reading

-- the word has the kind's low bits and code
unfoldable pub is_kind : WordKind → ℕ → Bool
is_kind kind word = eqb (field_of (field_at 0 kind.lows) word) kind.low and eqb (field_of (field_at 3 kind.codes) word) kind.code

unfoldable pub kind_in : ℕ → ℕ → Option ℕ
kind_in word k = pick (is_kind (kind_at k) word) (some k) none

unfoldable pub kind_of_word : ℕ → Option ℕ
kind_of_word word = first 7 (kind_in word)

-- the speed of a code: "speed 3 [gives] 12"
unfoldable pub speed_asked : NodeIndex → ℕ → Unpacked
speed_asked n code = get_or (Ok (Says (SetSpeed n Stay)) ∷ Ok (Says (SetSpeed n Grow)) ∷ Ok (Says (SetSpeed n Shrink)) ∷ []) code (Err NotCarried)

-- what a word of the k-th kind asks with a in A and b in B
unfoldable pub asks : ℕ → ℕ → ℕ → Unpacked
asks k a b =
    get_or
    (speed_asked (record { 0 = a }) b
    ∷ Ok (Says (SetBlossom (record { 0 = a }) (record { 0 = b })))
    ∷ Ok (Says (AddDefectVertex (record { 0 = a }) (record { 0 = b })))
    ∷ Ok (Says FindObstacle)
    ∷ (Ok Reset)
    ∷ Ok (Says (LoadDefectsExternal (record { 0 = a })))
    ∷ Ok (Says (GrowBy a))
    ∷ [])
    k (Err NotCarried)

abbrev pub asks_in : ℕ → Option ℕ → Unpacked
asks_in word none = Err NotCarried
asks_in word (some k) = asks k (field_of (kind_at k).a word) (field_of (kind_at k).b word)

-- "Other codes, low 11 and speed 3 give 12. Spare bits are ignored on reading"
unfoldable pub unpacked : ℕ → Unpacked
unpacked word = asks_in word (kind_of_word word)

-- ---- packing

-- "13: node, vertex or layer over 32,767, Grow length outside 0..67,108,863"
unfoldable pub in_bounds : Instruction → Bool
in_bounds (SetSpeed n s) = leb n.0 32_767
in_bounds (SetBlossom n b) = leb n.0 32_767 and leb b.0 32_767
in_bounds (AddDefectVertex v n) = leb v.0 32_767 and leb n.0 32_767
in_bounds FindObstacle = true
in_bounds (GrowBy l) = leb l 67_108_863
in_bounds (LoadDefectsExternal t) = leb t.0 32_767

-- the word of a kind with a in A and b in B: "spare bits are .. 0 on packing"
unfoldable pub word_of : WordKind → ℕ → ℕ → ℕ
word_of kind a b = a * 2 ^ kind.a.at + (b * 2 ^ kind.b.at + (kind.code * 2 ^ 3 + kind.low))

unfoldable pub word_for : Instruction → ℕ
word_for (SetSpeed n s) = word_of (kind_at 0) n.0 (speed_code s)
word_for (SetBlossom n b) = word_of (kind_at 1) n.0 b.0
word_for (AddDefectVertex v n) = word_of (kind_at 2) v.0 n.0
word_for FindObstacle = word_of (kind_at 3) 0 0
word_for (LoadDefectsExternal t) = word_of (kind_at 5) t.0 0
word_for (GrowBy l) = word_of (kind_at 6) l 0

-- "The Rust packers lose or misplace high bits of large fields; ours give 13"
unfoldable pub packed : Instruction → Packed
packed i = pick (in_bounds i) (Ok (word_for i)) (Err OutOfBounds)

unfoldable pub packed_reset : Packed
packed_reset = Ok (word_of (kind_at 4) 0 0)
