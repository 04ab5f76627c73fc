-- An edge's own words tell all that the tables tell of it: each definition over the tables is the one by the edge's entries.
use Rattle.std.specs.Prelude.{ℕ, ◌≡◌, List, Ok, get_or}
use Rattle.std.proofs.Math.Path.{refl}
use Rattle.laws.specs.Choice.{pick}
use Rattle.rules.specs.declared.finding.Finding.TheVariants.{GrowLength}
use Rattle.rules.specs.declared.finding.Length.TheVariants.{NoLimit}
use Rattle.rules.specs.Graph.{left_of, right_of, condition_of, far_end}
use Rattle.rules.specs.Fetch.{reduced, fetch_weight, tight, counted_tight}
use Rattle.rules.specs.Respond.{remaining, respond, edge_response}
use Rattle.comb_edge.specs.Edge.{far_end_by, reduced_by, weight_by, grown_by, tight_by, counted_tight_by, remaining_by, idle_by, meeting_by}

module _ (es : List ℕ) (e : ℕ) where
  pub far_end_by_lem : (v : ℕ) → far_end es v e ≡ far_end_by (get_or es e 0) v
  unfolding far_end left_of right_of far_end_by
  far_end_by_lem v = refl

  module _ (rs : List ℕ) where
    pub reduced_by_lem : reduced es rs e ≡ reduced_by (get_or es e 0) rs
    unfolding reduced condition_of reduced_by
    reduced_by_lem = refl

    pub weight_by_lem : (ws : List ℕ) → fetch_weight es rs ws e ≡ weight_by (get_or es e 0) rs (get_or ws e 0)
    unfolding fetch_weight reduced condition_of weight_by reduced_by
    weight_by_lem ws = refl

    pub tight_by_lem : (fs : List ℕ) → tight es rs fs e ≡ tight_by (get_or es e 0) rs (get_or fs e 0)
    unfolding tight left_of right_of tight_by grown_by
    tight_by_lem fs = refl

    pub counted_tight_by_lem : (fs : List ℕ) → counted_tight es rs fs e ≡ counted_tight_by (get_or es e 0) rs (get_or fs e 0)
    unfolding counted_tight reduced condition_of tight left_of right_of counted_tight_by reduced_by tight_by grown_by
    counted_tight_by_lem fs = refl

    pub remaining_by_lem : (fs : List ℕ) → remaining es fs rs e ≡ remaining_by (get_or es e 0) rs (get_or fs e 0)
    unfolding remaining left_of right_of remaining_by grown_by
    remaining_by_lem fs = refl

    pub response_by : (fs ss : List ℕ)
        → edge_response es fs rs ss e ≡ pick (idle_by (get_or es e 0) ss) (Ok (GrowLength NoLimit)) (meeting_by (get_or es e 0) rs ss (get_or fs e 0))
    unfolding edge_response respond remaining left_of right_of idle_by meeting_by remaining_by grown_by
    response_by fs ss = refl
