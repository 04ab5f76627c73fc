-- The pairs among the first edges, one edge after the other, and the whole list, over variables: too long for the buffer, or written from its start.
use Prim.Native.Nat.{ℕ, ◌+◌, ◌≤◌, ◌<◌}
use mathlib.Core.Path.{◌≡◌, ap, ◌∙◌}
use mathlib.Core.Bool.{Bool, true, false}
use mathlib.Core.List.{List}
use native.Mathlib.Nat.{zero-add}
use native.Mathlib.Omega.{arith}
use borrow.Author.Tests.{le-leb, lt-leb}
use lib.ListN.{length, get_or, set, length-append}
use Rattle.std.proofs.Common.{append-nil}
use Rattle.std.specs.Prelude.{Ok, Err}
use Rattle.laws.specs.Choice.{pick}
use Rattle.laws.specs.Placed.{Wrote, placed, wrote_then, wrote_nothing, wrote_one, wrote_length}
use Rattle.rules.specs.Pairs.{raised_from, pairs, listed, buffered}
use Rattle.rules.specs.declared.state.State.{State}
use Rattle.rules.specs.declared.refusal.Refusal.TheVariants.{ListTooLong}
use Rattle.raised.specs.Below.{pair_at, pairs_below, below_none, below_next, below_fewer, more_left, all_met}

-- ---- the edges below e

module _ (flags : List Bool) where
  -- an edge that isn't stalled takes no place
  pub pairs_pass : (e : ℕ) → get_or flags e false ≡ false → pairs_below flags (e + 1) ≡ pairs_below flags e
  unfolding pair_at
  pairs_pass e h = rw (below_next flags e, h) (append-nil (pairs_below flags e))

  module _ (x : List ℕ) where
    pub pairs_none : Wrote (pairs_below flags 0) 0 x 0 x
    pairs_none = rw (below_none flags) (wrote_nothing 0 x (omega arith))

    -- where n are written, they are all
    pub pairs_met : (e : ℕ) {written n : ℕ} {y : List ℕ} → Wrote (pairs_below flags e) 0 x written y → n ≡ length (raised_from 0 flags) → n ≤ written
        → y ≡ placed 0 (raised_from 0 flags) x
    pairs_met e p counted all = rw (← all_met flags all counted e (omega arith)) p.bytes

    -- those below d are written, and none is stalled from d to e
    module _ (d e : ℕ) {written n : ℕ} {y : List ℕ} (p : Wrote (pairs_below flags d) 0 x written y) (none : pairs_below flags e ≡ pairs_below flags d)
        (counted : n ≡ length (raised_from 0 flags)) where
      passed : Wrote (pairs_below flags e) 0 x written y
      passed = rw none p

      -- while fewer than n are written, an edge is left
      pub pairs_left : written < n → e < length flags
      pairs_left less = more_left flags less counted e (omega (arith, passed.end))

      -- a stalled one takes a place, for which there is room
      module _ (room : n ≤ length x) (h : get_or flags e false ≡ true) where
        room_left : written < length y
        unfolding pair_at
        room_left = omega (arith, passed.end, wrote_length passed, below_fewer flags (e + 1), rw (h, length-append (pairs_below flags e)) at (ap length (below_next flags e)))

        pub pairs_take : Wrote (pairs_below flags (e + 1)) 0 x (written + 1) (set y written e)
        unfolding pair_at
        pairs_take = rw (below_next flags e, h) (wrote_then passed (wrote_one written e y room_left))

-- ---- the whole list

module _ (s : State) (buffer : List ℕ) (n : ℕ) (counted : n ≡ length (raised_from 0 s.stalled)) where
  pub too_long : length buffer < n → Err ListTooLong ≡ listed s (length buffer)
  unfolding listed pairs pick
  too_long l = rw (← counted, lt-leb n (length buffer) l)

  pub untouched : length buffer < n → buffer ≡ buffered s buffer
  unfolding buffered pairs pick
  untouched l = rw (← counted, lt-leb n (length buffer) l)

  pub counts : n ≤ length buffer → Ok n ≡ listed s (length buffer)
  unfolding listed pairs pick
  counts l = rw (← counted, le-leb n (length buffer) l)

  pub written : (after : List ℕ) → n ≤ length buffer → after ≡ placed 0 (raised_from 0 s.stalled) buffer → after ≡ buffered s buffer
  unfolding buffered pairs pick placed
  written after l e = rw (← counted, le-leb n (length buffer) l) (e ∙ rw (zero-add, ← counted))

pub ruleset listings = (too_long, untouched, counts, written)
