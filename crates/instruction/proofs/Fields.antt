-- Field packing, once over place and width.
use Rattle.std.proofs.Common.{ℕ, ◌+◌, ◌*◌, ◌/◌, ◌^◌, ◌<◌, ◌≡◌, add_assoc, add-mul, lt_of_lt_of_le, mod-lt, mul_assoc, mul_comm, arith, pow-add, pow_mono, pow_pos}
use lib.Arith.{digits_lt}
use lib.Pow.{high, low}
use Rattle.rules.specs.Words.{field_of}
use Rattle.rules.specs.declared.instruction.Field.{Field}
use Rattle.rules.specs.declared.instruction.WordKind.{WordKind}
use Rattle.instruction.specs.Sound.{Sound, Fits}

-- what is read from a field has the field's width
pub field_lt : (f : Field) (word : ℕ) → field_of f word < 2 ^ f.width
unfolding field_of
field_lt f word = mod-lt (word / 2 ^ f.at) (pow_pos f.width)

-- THE FIELD LAW: a number of the field's width is read back, whatever stands below the field and above it
pub read_back : (f : Field) (above value below : ℕ) → value < 2 ^ f.width → below < 2 ^ f.at → field_of f (above * 2 ^ (f.at + f.width) + (value * 2 ^ f.at + below)) ≡ value
unfolding field_of
read_back f above value below v b =
    let together : above * 2 ^ (f.at + f.width) + (value * 2 ^ f.at + below) ≡ (above * 2 ^ f.width + value) * 2 ^ f.at + below =
    rw (pow-add 2 f.at f.width, mul_comm (2 ^ f.at) (2 ^ f.width), add-mul, add_assoc, mul_assoc) in
    rw (together, high (above * 2 ^ f.width + value) f.at b) (low above f.width v)

-- and takes no room above the field
pub room_above : (f : Field) {value below : ℕ} → value < 2 ^ f.width → below < 2 ^ f.at → value * 2 ^ f.at + below < 2 ^ (f.at + f.width)
room_above f v b = rw (pow-add, mul_comm (2 ^ f.at)) (digits_lt v b)

-- so what is below field A is, and the whole word fits
module _ (kind : WordKind) (a b : ℕ) (s : Sound kind) (hb : b < 2 ^ kind.b.width) where
  pub below_a : b * 2 ^ kind.b.at + (kind.code * 2 ^ 3 + kind.low) < 2 ^ kind.a.at
  below_a = lt_of_lt_of_le (room_above kind.b hb s.fixed) (pow_mono s.meets)

  pub fits : a < 2 ^ kind.a.width → Fits kind a b
  fits ha = record { a_at = s.a_at; b_at = omega arith; whole = lt_of_lt_of_le (room_above kind.a ha below_a) (pow_mono s.ends) }
