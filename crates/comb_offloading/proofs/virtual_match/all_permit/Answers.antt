-- `all` stops at the first place that does not permit, and over all places the walk is the definition's.
use Rattle.std.proofs.Common.{rules, arith, ◌∙◌, ◌≡◌, ◌≤◌, ◌+◌, ◌*◌, Bool, ℕ, get_or}
use Rattle.std.specs.List.{range_with_len, list_all}
use Rattle.std.proofs.iter.Serving.{serving}
use Rattle.std.proofs.lemmas.Iterator.{YieldsList-from_range}
use Rattle.std.proofs.lemmas.Iterator.Search.{all_from_yields_List}
use Rattle.board.specs.Board.{places_on, few}
use Rattle.places.specs.Places.{edge_in, far_in}
use Rattle.comb_offloading.specs.Around.{all_permit, all_permit_lem}
use Rattle.comb_offloading.specs.On.{permits_on}
use Rattle.comb_offloading.proofs.Listed.{all_listed}
use Rattle.comb_offloading.proofs.virtual_match.all_permit.Goals as goal

pub all-requires-clause-callable : goal.all-requires-clause-callable
all-requires-clause-callable c = let most : c.degree.result ≤ 16 = search (rules, few) in grind (arith, serving)

pub returns : goal.returns
unfolding all_permit
returns c =
    let given = c.args in
    let place : ℕ → ℕ = λ k. get_or (places_on given.stage.now.board.now.table) (given.regular * 16 + k) 0 in
    let p : ℕ → Bool = λ k. permits_on given.stage.now.board.now.table given.stage.now.before.now given.stage.now.weights.now given.edge.number (edge_in (place k)) (far_in (place k)) in
    let told : c.all.result ≡ list_all p (range_with_len 0 c.degree.result) =
    all_from_yields_List p _ _ _ c.all.ensures.ran (YieldsList-from_range 0 c.degree.result c.degree.result (search rules) (omega arith)) (λ x b q k. search rules) in
    told ∙ all_listed p c.degree.result ∙ rw c.degree.ensures (all_permit_lem _ _ _ _ given.stage.now.board.now.laid.wired _ (search rules))
