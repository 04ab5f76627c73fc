-- What the functions of reading.rt turn on: the walk over the kinds, and what fits an index.
use Rattle.std.proofs.Common.{ℕ, ◌+◌, ◌^◌, ◌<◌, ◌≤◌, ◌≡◌, refl, Bool, true, false, lt_of_lt_of_le, arith, lit<, get_or, pow_mono, Err}
use Rattle.std.proofs.Math.Option.{none}
use lib.ListN.{get_or-eq_default}
use Rattle.laws.specs.Choice.{pick}
use Rattle.laws.specs.First.{first, first_none, first_pass, first_stop}
use Rattle.rules.specs.Words.{field_of, is_kind, kind_at, kind_in, kind_of_word, speed_asked, asks, unpacked}
use Rattle.rules.specs.declared.index.NodeIndex.{NodeIndex}
use Rattle.rules.specs.declared.instruction.WordKind.{WordKind}
use Rattle.rules.specs.Types.{Unpacked}
use Rattle.rules.specs.declared.refusal.Refusal.TheVariants.{NotCarried}
use Rattle.instruction.specs.Place.{place}
use Rattle.instruction.specs.declared.kinds.Kind.{Kind}
use Rattle.instruction.specs.declared.kinds.Kind.TheVariants.{SetSpeed, SetBlossom, AddDefectVertex, FindObstacle, Reset, LoadDefectsExternal, Grow}
use Rattle.instruction.specs.declared.kinds.TheConstants.{KINDS}
use Rattle.instruction.proofs.Table.{each_at, index_a, index_b}
use Rattle.instruction.proofs.Fields.{field_lt}

-- past the list of speeds stands 12
pub no_speed : (n : NodeIndex) (code : ℕ) → 3 ≤ code → Err NotCarried ≡ speed_asked n code
unfolding speed_asked
no_speed n code h = rw get_or-eq_default

place_lt : (kind : Kind) → place kind < 7
place_lt SetSpeed = lit< tt
place_lt SetBlossom = lit< tt
place_lt AddDefectVertex = lit< tt
place_lt FindObstacle = lit< tt
place_lt Reset = lit< tt
place_lt LoadDefectsExternal = lit< tt
place_lt Grow = lit< tt

-- the kinds stand in the order of their places
pub at_place : (k : ℕ) → k < 7 → place (get_or KINDS k SetSpeed) ≡ k
at_place k h = each_at (λ (j : ℕ). place (get_or KINDS j SetSpeed) ≡ j) 7 (((((((tt, refl), refl), refl), refl), refl), refl), refl) k h

-- the walk: none of the first k kinds is the word's, until one is, or the table ends
pub no_kind_yet : (word : ℕ) → first 0 (kind_in word) ≡ none
no_kind_yet word = first_none (kind_in word)

pub no_kind : (word k : ℕ) → first k (kind_in word) ≡ none → k ≤ 7 → 7 ≤ k → Err NotCarried ≡ unpacked word
unfolding unpacked kind_of_word
no_kind word k none_below le ge =
    let e : k ≡ 7 = omega arith in
    rw (← e, none_below)

module _ (word k : ℕ) (kind : Kind) (here : place kind ≡ k) {is : Bool} (e : is ≡ is_kind (kind_at (place kind)) word) where
  pub not_this_kind : is ≡ false → first k (kind_in word) ≡ none → first (k + 1) (kind_in word) ≡ none
  unfolding kind_in pick
  not_this_kind isnt before = first_pass k (kind_in word) before (rw (← here, ← e, isnt))

  pub this_kind : {bits : WordKind} → bits ≡ kind_at (place kind) → {a b : ℕ} {r : Unpacked} → r ≡ asks (place kind) a b → a ≡ field_of bits.a word → b ≡ field_of bits.b word → is ≡ true → first k (kind_in word) ≡ none → k < 7 → r ≡ unpacked word
  unfolding unpacked kind_of_word kind_in pick
  this_kind row asked ea eb does before l =
      let found = first_stop k 7 (kind_in word) k l before (rw (← here, ← e, does)) in
      rw (found, ← here, ← row, ← ea, ← eb) asked

-- the numbers of a kind's fields are indices, but for the length of Grow
module _ (word : ℕ) (kind : Kind) {n : ℕ} {bits : WordKind} (row : bits ≡ kind_at (place kind)) where
  pub a_is_index : n ≡ field_of bits.a word → place kind < 6 → n < 2 ^ 16
  a_is_index e h = rw (e, row) (lt_of_lt_of_le (field_lt (kind_at (place kind)).a word) (pow_mono {j = 16} (index_a (place kind) h)))

  pub b_is_index : n ≡ field_of bits.b word → n < 2 ^ 16
  b_is_index e = rw (e, row) (lt_of_lt_of_le (field_lt (kind_at (place kind)).b word) (pow_mono {j = 16} (index_b (place kind) (place_lt kind))))

pub ruleset reading = (no_kind_yet, not_this_kind, this_kind, no_kind, a_is_index, b_is_index)
