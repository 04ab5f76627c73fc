-- A store at k leaves the words before it, and what is blank behind it.
use Rattle.std.proofs.Common.{◌<◌, ◌≢◌, length, arith, length-set, get_or-set_other, get_or-set_same, below_more}
use Rattle.image.proofs.table.Goals as goal

pub loop-k-preserved : goal.loop-k-preserved
loop-k-preserved g c = record {
  long = rw length-set c.loop-k.invariant.long;
  each = below_more _ _
      (λ j h. let other : j ≢ c.from.result = omega arith in rw get_or-set_other (c.loop-k.invariant.each j h))
      (let inside : c.loop-k.k < length c.loop-k.words = omega arith in rw (c.from.ensures, get_or-set_same) c.word.ensures);
  rest = λ j h. let other : j ≢ c.from.result = omega arith in rw get_or-set_other (c.loop-k.invariant.rest j (omega arith));
}
