-- Turn by turn the stalled edges below e are put, for which there is room; as soon as there are n, or no edge is left, they are all.
use Rattle.std.proofs.Common.{rules, refl, ◌≡◌, false, get_or, arith, length-append}
use Rattle.laws.specs.Fold.{bit, bit_most}
use Rattle.rules.specs.Listing.{numbers}
use Rattle.laws.specs.Placed.{wrote_nothing}
use Rattle.raised.specs.Below.{pair_at, pairs_below, below_none, below_fewer, no_more, count_none, count_next, count_end, all_met}
use Rattle.listing.proofs.Puts.{puts, ◌then◌, widened}
use Rattle.listing.proofs.Numbers.{below_grows, below_room, edges_most}
use Rattle.listing.proofs.line.Line.put_pairs.Goals as goal

pub loop-e-init : goal.loop-e-init
loop-e-init c = record {
  met = count_none c.args.stalled.now;
  put = rw (below_none c.args.stalled.now) (puts refl (wrote_nothing _ _ (omega arith)) (omega arith));
}

pub put_edge-requires : goal.put_edge-requires
put_edge-requires c =
    rw c.from.ensures
    (omega (arith, below_room c.args.stalled.now c.loop-e.e (omega arith), c.loop-e.invariant.put.wrote.end, c.loop-e.invariant.put.same_length, c.put_byte.ensures.wrote.end, c.put_byte.ensures.same_length))

pub overflow_add-met : goal.overflow_add-met
overflow_add-met c =
    let on = get_or c.args.stalled.now c.from.result false in
    let value : c.from-met.result ≡ bit on = search rules in
    omega (arith, value, bit_most on, below_fewer c.args.stalled.now c.loop-e.e, no_more 0 c.args.stalled.now, c.loop-e.invariant.met)

pub loop-e-preserved : goal.loop-e-preserved
loop-e-preserved c =
    let flags = c.args.stalled.now in
    let e = c.loop-e.e in
    let value : c.from-met.result ≡ bit (get_or flags c.from.result false) = search rules in
    record {
      met = count_next flags e c.loop-e.met c.from-met.result c.loop-e.invariant.met (rw c.from.ensures at value);
      put =
          rw (below_grows flags e)
          (widened (c.loop-e.invariant.put then (rw c.from.ensures at c.put_edge.ensures)) (omega (arith, length-append (numbers (pairs_below flags e)) (numbers (pair_at e (get_or flags e false))))));
    }

pub returns-after-loop-e : goal.returns-after-loop-e
returns-after-loop-e c =
    let flags = c.args.stalled.now in
    let counted = count_end flags c.loop-e.e c.loop-e.met c.loop-e.invariant.met (omega arith) in
    let all = all_met flags (omega (arith, counted)) refl c.loop-e.e c.loop-e.invariant.met in
    widened (c.put_byte.ensures then (rw all at c.loop-e.invariant.put)) (omega (arith, edges_most 0 flags (omega arith)))

pub returns-then-met-n : goal.returns-then-met-n
returns-then-met-n c =
    let flags = c.args.stalled.now in
    let all = all_met flags (omega (arith, c.if-met-n.true)) c.count-n.ensures c.loop-e.e c.loop-e.invariant.met in
    widened (c.put_byte.ensures then (rw all at c.loop-e.invariant.put)) (omega (arith, edges_most 0 flags (omega arith)))
