-- The letter, then the finding.
use Rattle.std.proofs.Common.{◌≡◌, ◌∙◌, ap}
use Rattle.std.specs.Prelude.{Ok}
use Rattle.rules.specs.declared.finding.Carried.TheVariants.{Found}
use Rattle.listing.proofs.Puts.{◌then◌}
use Rattle.listing.proofs.line.Line.put_word.Goals as goal

pub returns-in-Ok-Found : goal.returns-in-Ok-Found
returns-in-Ok-Found c =
    let answer : c.args.answer ≡ Ok (Found c.in-Ok-Found.finding) = c.in-Ok-Found.is ∙ ap Ok (rw c.in-Ok-Found.is at c.in-Ok-Found.field-0-is) in
    rw answer (c.put_byte.ensures then c.put_finding.ensures)
