-- A turn that grew did so by some length.
use Rattle.std.proofs.Common.{Ok, ap, ◌∙◌}
use Rattle.comb_search.proofs.Seeks.{grew_some}
use Rattle.comb_search.proofs.turns.take_watched.Goals as goal

pub repeats-more-requires : goal.repeats-more-requires
repeats-more-requires c = grew_some _ _ _ _ c.take_turn.ensures _ _ (c.in_ok-turn.was ∙ ap Ok c.in-Grew.is)
