-- A walk over the vertex records gives their first refusal, and so does one over the unit records.
use Rattle.rules.specs.Image.{vertex_refusal, unit_refusal}
use Rattle.std.proofs.Common.{rules, arith}
use Rattle.image_refusal.proofs.Opening.{opening}
use Rattle.image_refusal.proofs.Walks.{tried}
use Rattle.image_refusal.proofs.image_refusal.Goals as goal

pub returns-in_err-try_for_each : goal.returns-in_err-try_for_each
returns-in_err-try_for_each c =
    let v = tried c.try_for_each.ensures.ran (vertex_refusal c.args.bytes.now) (λ x r q k. search rules) in
    grind (arith, opening)

pub returns-in_err-edges_refusal : goal.returns-in_err-edges_refusal
returns-in_err-edges_refusal c =
    let v = tried c.try_for_each.ensures.ran (vertex_refusal c.args.bytes.now) (λ x r q k. search rules) in
    grind (arith, opening)

pub returns : goal.returns
returns c =
    let v = tried c.try_for_each.ensures.ran (vertex_refusal c.args.bytes.now) (λ x r q k. search rules) in
    let u = tried c.try_for_each-2.ensures.ran (unit_refusal c.args.bytes.now) (λ x r q k. search rules) in
    grind (arith, opening)
