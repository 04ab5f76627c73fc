-- The units so far: the listed ones before u, and behind them all the FusionMatches of the conditioned edges before e.
use Rattle.laws.specs.Table.{table}
use Rattle.rules.specs.Image.{unit_count, unit_word}
use Rattle.std.proofs.Common.{◌≡◌}
use Rattle.image.specs.Units.{words_to}
use Rattle.image.proofs.units_of.Given as goal

abbrev pub invariant-loop-u : goal.invariant-loop-u
invariant-loop-u l = l.units ≡ table l.u (unit_word l.bytes)

abbrev pub invariant-loop-e : goal.invariant-loop-e
invariant-loop-e l = l.units ≡ words_to l.bytes (unit_count l.bytes) l.e
