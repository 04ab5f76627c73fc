-- The first raised flag has the first number, and the flags behind it have the others.
use Rattle.std.proofs.Common.{rules, length, sym, ap, ◌∙◌, arith}
use Rattle.raised.proofs.Next.{next_raised, no_next}
use Rattle.raised.proofs.RaisedIterator.next.Goals as goal

pub returns-in_err-skipped-clause-steps : goal.returns-in_err-skipped-clause-steps
returns-in_err-skipped-clause-steps c = search (rules, no_next)

pub invariant_of-self : goal.invariant_of-self
invariant_of-self c = (omega (arith, ap length (next_raised c.self.inside.next _ _ c.in_ok-skipped.ensures)), omega arith)

pub returns-clause-steps : goal.returns-clause-steps
returns-clause-steps c = sym c.self.view_is ∙ next_raised _ _ _ c.in_ok-skipped.ensures

pub returns-clause-goes : goal.returns-clause-goes
returns-clause-goes c = let e = sym c.self.view_is ∙ next_raised _ _ _ c.in_ok-skipped.ensures in search (rules, e)
