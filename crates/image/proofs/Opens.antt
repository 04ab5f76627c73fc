-- What the check of an image says of how it opens.
use Rattle.std.proofs.Common.{◌≡◌, ℕ, List, Result, Ok, Err, refl}
use Rattle.std.proofs.Math.Option.{Option, none, some}
use Rattle.rules.specs.Image.{image_refusal, blank_graph, graph_of, unit_count, session_at, opened_by, opened}
use Rattle.rules.specs.declared.graph.Opened.{Opened}
use Rattle.rules.specs.declared.refusal.Refusal.{Refusal}
use Rattle.image_refusal.specs.Check.{check_of, passed}

module _ (bs : List ℕ) where
  abbrev pub opens : Result Unit Refusal → Opened
  opens (Ok x) = record { graph = graph_of bs; opening = Ok (record { units = unit_count bs; start = session_at bs }) }
  opens (Err r) = record { graph = blank_graph; opening = Err r }

  by_check : (o : Option Refusal) → opened_by bs o ≡ opens (check_of o)
  unfolding check_of
  by_check none = refl
  by_check (some r) = refl

  pub accepted_is : image_refusal bs ≡ none → record { graph = graph_of bs; opening = Ok (record { units = unit_count bs; start = session_at bs }) } ≡ opened bs
  unfolding opened
  accepted_is h = rw h

  pub opened_is : opened bs ≡ opens (check_of (image_refusal bs))
  unfolding opened
  opened_is = by_check (image_refusal bs)

  pub not_refused : check_of (image_refusal bs) ≡ Ok tt → image_refusal bs ≡ none
  not_refused h = passed (image_refusal bs) h

pub ruleset opening = (opened_is, not_refused)
