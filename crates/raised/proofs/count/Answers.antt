-- Where none is raised there are 0; else the bits of all flags were added up.
use Rattle.std.proofs.Common.{length, sym, ap, ◌∙◌, arith}
use Rattle.std.proofs.lemmas.Grind.{common_steps}
use Rattle.raised.proofs.Counted.{bits_are_raised, no_raised}
use Rattle.raised.proofs.count.Goals as goal

pub returns-then-not-is_any_raised : goal.returns-then-not-is_any_raised
returns-then-not-is_any_raised c = ap length (sym (no_raised 0 c.args.stalled.now (sym c.is_any_raised.ensures ∙ c.if-not-is_any_raised.true)))

pub returns : goal.returns
returns c = grind (arith, common_steps, bits_are_raised)
