-- At the end of input: no bytes left and no line, or the line of a record that was cut short, where it finds room.
use Rattle.std.specs.Prelude.{ℕ, ◌+◌, ◌≡◌, Bool, true, false, List, [], leb, length, Some, None}
use Rattle.std.proofs.Common.{refl, sym, ap, ◌∙◌, zero-add, arith, eq-eqb, ne_eqb, le-leb}
use Rattle.laws.specs.Choice.{pick}
use Rattle.rules.specs.Listing.{digits, decimal, line, refusal_text}
use Rattle.rules.specs.declared.refusal.Refusal.TheVariants.{SessionRecord}
use Rattle.laws.specs.Placed.{placed_none}
use Rattle.records.specs.Chunks.{end_text}
use Rattle.listing.specs.Lines.{record_line, line_end, line_in}
use Rattle.session.specs.Chunk.{last_fits, last_of, last_in}

abbrev text : List ℕ
text = line (refusal_text SessionRecord)

five_bytes : length text ≡ record_line
unfolding decimal digits pick
five_bytes = refl

module _ (left : ℕ) (x : List ℕ) where
  none_left : left ≡ 0 → end_text left ≡ []
  unfolding end_text pick
  none_left e = rw (eq-eqb left 0 e)

  none_fits : left ≡ 0 → last_fits left x ≡ true
  unfolding last_fits
  none_fits e = rw (none_left e) (le-leb 0 (length x) (omega arith))

  pub no_line : left ≡ 0 → Some 0 ≡ last_of left x
  unfolding last_of pick
  no_line e = rw (none_fits e, none_left e)

  pub no_bytes : left ≡ 0 → x ≡ last_in left x
  unfolding last_in pick
  no_bytes e = rw (none_fits e, none_left e) (sym (placed_none 0 x))

  some_left : (left ≡ 0 → ⊥) → end_text left ≡ text
  unfolding end_text pick
  some_left n = rw (ne_eqb left 0 n)

  some_fits : (left ≡ 0 → ⊥) → last_fits left x ≡ leb (0 + record_line) (length x)
  unfolding last_fits
  some_fits n = ap (λ (t : List ℕ). leb (length t) (length x)) (some_left n) ∙ ap (λ (k : ℕ). leb k (length x)) five_bytes

  module _ (n : left ≡ 0 → ⊥) (r : ℕ) where
    with_room : (fits : Bool) → r ≡ pick fits (0 + length text) 0 → (r ≡ 0 → ⊥) → Some r ≡ pick fits (Some (length (end_text left))) None
    unfolding pick
    with_room true e m = ap Some (e ∙ zero-add (length text) ∙ ap length (sym (some_left n)))
    with_room false e m = absurd (m e)

    without_room : (fits : Bool) → r ≡ pick fits (0 + length text) 0 → r ≡ 0 → None ≡ pick fits (Some (length (end_text left))) None
    unfolding pick
    without_room true e m = absurd (omega (arith, five_bytes, e, m))
    without_room false e m = refl

    pub last_line : r ≡ line_end record_line 0 text x → (r ≡ 0 → ⊥) → Some r ≡ last_of left x
    unfolding line_end last_of
    last_line e m = rw (some_fits n) (with_room (leb (0 + record_line) (length x)) e m)

    pub no_room : r ≡ line_end record_line 0 text x → r ≡ 0 → None ≡ last_of left x
    unfolding line_end last_of
    no_room e m = rw (some_fits n) (without_room (leb (0 + record_line) (length x)) e m)

  pub last_bytes : (left ≡ 0 → ⊥) → (y : List ℕ) → y ≡ line_in record_line 0 text x → y ≡ last_in left x
  unfolding line_in last_in
  last_bytes n y e = rw (some_fits n, some_left n) e

pub ruleset lasts = (no_line, no_bytes, last_line, no_room, last_bytes)
