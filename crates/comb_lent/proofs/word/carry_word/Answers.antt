-- An instruction's answer is the word's.
use Rattle.comb_lent.proofs.Ends.{ends_refused, ends_found, ends_cut}
use Rattle.std.proofs.Common.{rules, Ok, ap, ◌∙◌}
use Rattle.comb_lent.proofs.word.carry_word.Goals as goal

pub returns-in_err-instruction : goal.returns-in_err-instruction
returns-in_err-instruction c = ends_refused _ _ _ _ c.unpack.ensures _ c.in_err-instruction.was (search rules)

pub returns-in_err-instruct-in-Says : goal.returns-in_err-instruct-in-Says
returns-in_err-instruct-in-Says c = ends_cut _ _ _ _ c.unpack.ensures _ (c.in_ok-instruction.was ∙ ap Ok c.in-Says.is) _ _ c.instruct.ensures _ c.in_err-instruct-in-Says.was (search rules)

pub returns-in_ok-instruct-in-Says : goal.returns-in_ok-instruct-in-Says
returns-in_ok-instruct-in-Says c = ends_found _ _ _ _ c.unpack.ensures _ (c.in_ok-instruction.was ∙ ap Ok c.in-Says.is) _ _ c.instruct.ensures _ c.in_ok-instruct-in-Says.was
