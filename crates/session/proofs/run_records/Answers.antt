-- What was done so far and the chunk that is left make the whole chunk.
use Rattle.std.proofs.Common.{◌≡◌, ◌∙◌, arith}
use Rattle.records.specs.Answered.{is_unknown}
use Rattle.session.proofs.Turns.{at, few_left, told, filled, stops_short, stops_full, ends, goes_on, other_kind, known_kind}
use Rattle.session.proofs.run_records.Goals as goal
use Rattle.session.proofs.run_records.Goals.{in-Unknown, in_default}

pub loop-kind-preserved : goal.loop-kind-preserved
loop-kind-preserved c =
    let a = at _ _ c.as_chunks.ensures.front_len _ _ c.loop-kind.invariant.place c.as_chunks.ensures.front c.loop-kind-test.true in
    let e : c.match-matches.matches ≡ is_unknown c.answer_record-answered.result =
    elim c.match-matches.branch [ in-Unknown w ↦ w.matches-is ∙ other_kind _ w.in-Unknown.is | in_default w ↦ w.matches-is ∙ known_kind _ w.in_default.not-Unknown ] in
    record {
      under = goes_on c.loop-kind.invariant.under a.five _ a.is c.if-out-written-lt-LONGEST_PAIRS.false _ c.from_le_bytes.ensures _ _ c.answer_record-answered.ensures _ _ c.answer_line-written.ensures.value c.answer_line-written.ensures.out_after c.answer_line-written.ensures.upper_bound _ e c.if-matches.false;
      place = omega arith;
      goes_on = c.loop-kind.invariant.goes_on;
    }

pub returns-then-matches : goal.returns-then-matches
returns-then-matches c =
    let a = at _ _ c.as_chunks.ensures.front_len _ _ c.loop-kind.invariant.place c.as_chunks.ensures.front c.loop-kind-test.true in
    let e : c.match-matches.matches ≡ is_unknown c.answer_record-answered.result =
    elim c.match-matches.branch [ in-Unknown w ↦ w.matches-is ∙ other_kind _ w.in-Unknown.is | in_default w ↦ w.matches-is ∙ known_kind _ w.in_default.not-Unknown ] in
    let m = ends c.loop-kind.invariant.under a.five _ a.is c.if-out-written-lt-LONGEST_PAIRS.false _ c.from_le_bytes.ensures _ _ c.answer_record-answered.ensures _ _ c.answer_line-written.ensures.value c.answer_line-written.ensures.out_after c.answer_line-written.ensures.upper_bound _ e c.if-matches.true in
    record { value = told m; out_after = filled m; used_in_bounds = (m.within, m.inside) }

pub returns-then-out-written-lt-LONGEST_PAIRS : goal.returns-then-out-written-lt-LONGEST_PAIRS
returns-then-out-written-lt-LONGEST_PAIRS c =
    let a = at _ _ c.as_chunks.ensures.front_len _ _ c.loop-kind.invariant.place c.as_chunks.ensures.front c.loop-kind-test.true in
    let m = stops_full c.loop-kind.invariant.under a.five c.if-out-written-lt-LONGEST_PAIRS.true in
    record { value = told m; out_after = filled m; used_in_bounds = (m.within, m.inside) }

pub returns-after-loop-kind : goal.returns-after-loop-kind
returns-after-loop-kind c =
    let m = stops_short c.loop-kind.invariant.under _ c.loop-kind.invariant.goes_on (few_left _ _ c.as_chunks.ensures.front_len _ _ c.loop-kind.invariant.place c.loop-kind-test.false) in
    record { value = told m; out_after = filled m; used_in_bounds = (m.within, m.inside) }
