-- Packing as the table has it: a number that does not fit its field gets 13.
use Rattle.std.specs.Prelude.{ℕ, ◌^◌, ltb}
use Rattle.laws.specs.Choice.{◌and◌, pick}
use Rattle.rules.specs.Words.{word_of}
use Rattle.rules.specs.declared.instruction.WordKind.{WordKind}
use Rattle.rules.specs.Types.{Packed}
use Rattle.std.specs.Prelude.{Err, Ok}
use Rattle.rules.specs.declared.refusal.Refusal.TheVariants.{OutOfBounds}

unfoldable pub packed_as : WordKind → ℕ → ℕ → Packed
packed_as kind a b = pick (ltb a (2 ^ kind.a.width) and ltb b (2 ^ kind.b.width)) (Ok (word_of kind a b)) (Err OutOfBounds)
