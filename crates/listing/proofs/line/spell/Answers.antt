-- The digits that are left and those that are put make the number: at first none is put, at the end none is left.
use Rattle.std.proofs.Common.{arith}
use Rattle.listing.proofs.Digits.{spell_none, spell_step, spell_end}
use Rattle.listing.proofs.line.spell.Goals as goal

pub loop-i-init : goal.loop-i-init
loop-i-init c = spell_none _ _ c.requires

pub loop-i-preserved : goal.loop-i-preserved
loop-i-preserved c = spell_step _ _ _ _ c.loop-i.invariant c.loop-i-test.true (omega arith)

pub returns : goal.returns
returns c = spell_end _ _ _ _ c.loop-i.invariant c.loop-i-test.false
