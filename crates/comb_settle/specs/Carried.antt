-- The least length as the loop over the vertices carries it, in a number: grown amounts are less than 67,108,864, and from there up it is no limit.
use Rattle.std.specs.Prelude.{ℕ, ltb}
use Rattle.laws.specs.Choice.{pick}
use Rattle.rules.specs.declared.finding.Length.{Length}
use Rattle.rules.specs.declared.finding.Length.TheVariants.{NoLimit, Ahead}

unfoldable pub length_in : ℕ → Length
length_in n = pick (ltb n 67_108_864) (Ahead n) NoLimit
