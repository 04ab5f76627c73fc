-- The logarithm rounded down, and one more.
use Rattle.std.proofs.Common.{◌∙◌, ap, ◌+◌}
use Rattle.listing.proofs.Digits.{width_is}
use Rattle.listing.proofs.line.width.Goals as goal

pub returns : goal.returns
returns c =
    let log = c.checked_ilog10.ensures in
    ap (λ n. n + 1) c.unwrap_or.ensures ∙ width_is _ c.ranges.n.fits _ log.none log.power_le log.next_power_gt
