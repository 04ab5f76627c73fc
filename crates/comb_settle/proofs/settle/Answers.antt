-- A vertex that is free keeps its word, shows it and bounds no length; for any other the callees give what is painted, and the length.
use Rattle.board.specs.Board.{vertices_on}
use Rattle.comb_settle.proofs.Reporting.{none_yet, turn, free_quiet}
use Rattle.comb_settle.proofs.Settling.{free_word, free_updates, free_shows}
use Rattle.comb_settle.specs.Unled.{marks_tell}
use Rattle.std.proofs.Common.{refl, rules, arith, ◌<◌, length}
use Rattle.comb_settle.proofs.settle.Goals as goal
use Rattle.comb_settle.proofs.settle.Goals.{then-is_free, else-is_free}

pub loop-v-init : goal.loop-v-init
loop-v-init c = none_yet _ _ _ _ _

pub settle_at-settled-requires : goal.settle_at-settled-requires
settle_at-settled-requires c = search (rules, marks_tell)

pub loop-v-preserved : goal.loop-v-preserved
loop-v-preserved c =
    let given = c.args in
    let long : c.loop-v.v < length given.updated.now = omega arith in
    let small : c.loop-v.v < 256 = omega arith in
    let tells = marks_tell given.stage.now.board.now.laid.wired given.stage.now.board.now.laid.ends _ _ c.mark_led-marks.ensures in
    elim c.if-is_free.branch [
      | then-is_free w ↦
          turn _ _ _ _ _ _ c.loop-v-test.true long _ _ _ _ c.loop-v.invariant
          (free_updates _ _ _ _ _ _ _ refl _ tells small _ c.is_free.ensures w.if-is_free.true)
          (free_shows _ _ _ _ _ _ _ refl _ tells small _ c.is_free.ensures w.if-is_free.true (vertices_on given.stage.now.board.now.table) given.stalled.now)
          (rw w.length-is (free_quiet _ _ (free_word _ _ c.is_free.ensures w.if-is_free.true))) w.updated-is w.shadows-is
      | else-is_free w ↦
          let made = w.settle_at-settled.ensures in
          turn _ _ _ _ _ _ c.loop-v-test.true long _ _ _ _ c.loop-v.invariant made.updated_value made.shadow_value (rw w.length-is w.shortest-length.ensures)
          w.updated-is w.shadows-is
    ]
