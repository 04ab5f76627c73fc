-- Checks in order: the first that refuses decides, and one that passes leaves the decision to the rest.
use Rattle.std.specs.Result.{result_and}
use Rattle.std.proofs.Common.{◌≡◌, ℕ, List, Bool, ◌&&◌, ◌||◌, refl, sym}
use Rattle.std.proofs.lemmas.Bool.Decides.{nat_tests}
use Rattle.std.proofs.Math.Option.{Option, none, some}
use Rattle.laws.specs.Choice.{◌and◌, ◌or◌}
use Rattle.laws.specs.Connectives.{and_is, or_is}
use Rattle.laws.specs.First.{or_else}
use Rattle.rules.specs.Image.{is_end}
use Rattle.rules.specs.declared.refusal.Refusal.{Refusal}
use Rattle.image_records.specs.Records.{edge_record}
use Rattle.image_refusal.specs.Check.{check_of, is_end_of}

pub in_order : (o p : Option Refusal) → check_of (or_else o p) ≡ result_and (check_of o) (check_of p)
unfolding check_of
in_order none p = refl
in_order (some q) p = refl

pub both : (a b : Bool) → (a and b) ≡ (a && b)
both a b = sym (and_is a b)

pub either : (a b : Bool) → (a or b) ≡ (a || b)
either a b = sym (or_is a b)

pub ends_are : (bs : List ℕ) (v e : ℕ) → is_end bs v e ≡ is_end_of v (edge_record bs e)
unfolding is_end is_end_of
ends_are bs v e = refl

pub ruleset checks = (in_order, both, either, ends_are, nat_tests)
