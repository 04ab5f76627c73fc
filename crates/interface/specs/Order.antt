-- The order of a conflict's sides.
use Rattle.rules.specs.Search.{ordered}
use Rattle.rules.specs.declared.finding.Finding.{Finding}
use Rattle.rules.specs.declared.finding.Finding.TheVariants.{GrowLength, Conflict}

-- "Conflict: swap the sides if the first node is absent"; a length stays
abbrev pub fixed_order : Finding → Finding
fixed_order (GrowLength l) = GrowLength l
fixed_order (Conflict a b) = ordered a b
