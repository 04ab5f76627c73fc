-- While fewer than n pairs are written, an edge further on is stalled: it is written behind them. Where n are written, they are all.
use Rattle.comb_lent.proofs.Listing.{pairs_none, pairs_pass, pairs_left, pairs_take, pairs_met}
use Rattle.std.proofs.Common.{refl, ◌∙◌, arith}
use Rattle.comb_lent.proofs.pairs.put_pairs.Goals as goal

pub loop-written-init : goal.loop-written-init
loop-written-init c = pairs_none _ _

pub loop-e-init : goal.loop-e-init
loop-e-init c = refl

pub bounds-stalled-e : goal.bounds-stalled-e
bounds-stalled-e c = omega (arith, pairs_left _ _ _ _ c.loop-written.invariant c.loop-e.invariant c.requires.n_value c.loop-written-test.true)

pub overflow_add-e : goal.overflow_add-e
overflow_add-e c = omega (arith, pairs_left _ _ _ _ c.loop-written.invariant c.loop-e.invariant c.requires.n_value c.loop-written-test.true)

pub loop-e-smaller : goal.loop-e-smaller
loop-e-smaller c = omega (arith, pairs_left _ _ _ _ c.loop-written.invariant c.loop-e.invariant c.requires.n_value c.loop-written-test.true)

pub loop-e-preserved : goal.loop-e-preserved
loop-e-preserved c = pairs_pass _ _ c.loop-e-test.true ∙ c.loop-e.invariant

pub loop-written-preserved : goal.loop-written-preserved
loop-written-preserved c = pairs_take _ _ _ _ c.loop-written.invariant c.loop-e.invariant c.requires.n_value c.requires.n_in_bounds c.loop-e-test.false

pub returns : goal.returns
returns c = pairs_met _ _ _ c.loop-written.invariant c.requires.n_value (omega arith)
