-- The edges of the vertices that grow are enough: an edge neither of whose ends grows has no joint speed and reports no limit, and any other
-- is met at an end that grows, below the reach. Meeting it at both ends changes nothing.
use Rattle.std.proofs.Common.{ℕ, ◌+◌, ◌*◌, ◌<◌, ◌≡◌, refl, ap, ◌∙◌, Bool, true, false, List, eqb, get_or, eq-eqb}
use Rattle.laws.specs.Choice.{pick, by_test}
use Rattle.laws.specs.Tests.{the_second}
use Rattle.laws.specs.Semilattice.{joined, Has, has_met, has_part, has_all, same_joined, joined_picked}
use Rattle.laws.specs.Walk.{up_to_same}
use Rattle.rules.specs.Graph.{left_of, right_of, touches, far_end}
use Rattle.rules.specs.Registers.{at, growing, same_node}
use Rattle.rules.specs.Respond.{joint, respond, edge_response}
use Rattle.rules.specs.declared.instruction.CompactGrowState.{CompactGrowState}
use Rattle.rules.specs.declared.instruction.CompactGrowState.TheVariants.{Stay, Grow, Shrink}
use Rattle.places.specs.Ends.{Ends, touches_left, touches_right}
use Rattle.places.specs.Places.{edge_in, far_in}
use Rattle.places.specs.Wired.{Wired, walk_wired}
use Rattle.comb_cycle.specs.Listed.{grows_at}
use Rattle.comb_cycle.specs.Strongest.{silent, stronger, strongest_of, report_from, report, strongest, strongest_at}
use Rattle.comb_cycle.specs.declared.report.Report.{Report}
use Rattle.comb_cycle.proofs.Sides.{heard_from_lem}
use Rattle.comb_cycle.proofs.Strengths.{strengths}

no_speed : (a b : CompactGrowState) → growing a ≡ false → growing b ≡ false → joint a b ≡ 0
no_speed Stay Stay g h = refl
no_speed Stay Grow g h = cc
no_speed Stay Shrink g h = refl
no_speed Grow b g h = cc
no_speed Shrink Stay g h = refl
no_speed Shrink Grow g h = refl
no_speed Shrink Shrink g h = refl

module _ (es fs ys ss : List ℕ) where
  idle_silent : (e : ℕ) → grows_at ss (left_of es e) ≡ false → grows_at ss (right_of es e) ≡ false → report es fs ys ss e ≡ silent
  unfolding report edge_response respond pick
  idle_silent e g h =
      let z : eqb (joint (at ss (left_of es e)).speed (at ss (right_of es e)).speed) 0 ≡ true = eq-eqb _ _ (no_speed (at ss (left_of es e)).speed (at ss (right_of es e)).speed g h) in
      rw (the_second (same_node (at ss (left_of es e)).node (at ss (right_of es e)).node) _ z)

  -- ---- the edges of one vertex

  -- what is heard at v of the edge at its place k
  unfoldable pub place_report : List ℕ → ℕ → ℕ → Report
  place_report ps v k = report_from fs ys ss v (edge_in (get_or ps (v * 16 + k) 0)) (far_in (get_or ps (v * 16 + k) 0))

  by_touch : (v e : ℕ) (x : Report) (b : Bool) → touches es v e ≡ b
      → pick b (stronger x (report_from fs ys ss v e (far_end es v e))) x ≡ pick b (stronger x (report es fs ys ss e)) x
  unfolding pick
  by_touch v e x true t = ap (stronger x) (heard_from_lem es fs ys ss v e t)
  by_touch v e x false t = refl

  pub places_strongest : {ps ds : List ℕ} {ne : ℕ} → Wired es ne ps ds → (v : ℕ) → v < 256
      → strongest_of (place_report ps v) (get_or ds v 0) ≡ strongest_at es fs ys ss ne v
  unfolding strongest_of joined place_report strongest_at
  places_strongest {ne = ne} w v u =
      walk_wired w v u (λ e far x. stronger x (report_from fs ys ss v e far)) silent
      ∙ up_to_same _ _ silent ne (λ e x l. by_touch v e x (touches es v e) refl)
      ∙ joined_picked stronger silent strengths (touches es v) (report es fs ys ss) ne

  -- ---- the edges of all vertices that grow

  -- what is heard at v
  unfoldable pub heard : ℕ → ℕ → Report
  heard ne v = pick (grows_at ss v) (strongest_at es fs ys ss ne v) silent

  module _ (ne r : ℕ) (ends : Ends es ne r) where
    abbrev AllHave : Report → Type 0
    AllHave x = Has stronger silent (joined stronger silent (report es fs ys ss) ne) x

    -- nothing more is heard
    no_more : (v : ℕ) → AllHave (heard ne v)
    unfolding heard strongest_at strongest_of
    no_more v =
        by_test AllHave (grows_at ss v)
        (λ t. has_all stronger silent strengths _ _ ne (λ e l. by_test AllHave (touches es v e) (λ t. has_met stronger silent strengths _ ne e l) (λ t. strengths.unit _)))
        (λ t. strengths.unit _)

    module _ (e : ℕ) (l : e < ne) where
      abbrev Heard : Report → Type 0
      Heard x = Has stronger silent (joined stronger silent (heard ne) r) x

      heard_at : (v : ℕ) → v < r → grows_at ss v ≡ true → touches es v e ≡ true → Heard (report es fs ys ss e)
      unfolding heard strongest_at strongest_of pick
      heard_at v u g t =
          let m = has_met stronger silent strengths (λ k. pick (touches es v k) (report es fs ys ss k) silent) ne e l in
          has_part stronger silent strengths (heard ne) r v (report es fs ys ss e) u (rw g (rw t at m))

      -- nothing is missed
      by_ends : (a b : Bool) → grows_at ss (left_of es e) ≡ a → grows_at ss (right_of es e) ≡ b → Heard (report es fs ys ss e)
      by_ends true b g h = heard_at (left_of es e) (ends.left e l) g (touches_left es e)
      by_ends false true g h = heard_at (right_of es e) (ends.right e l) h (touches_right es e)
      by_ends false false g h = rw (idle_silent e g h) (strengths.unit _)

    pub heard_strongest : strongest_of (heard ne) r ≡ strongest es fs ys ss ne
    unfolding strongest strongest_of
    heard_strongest =
        same_joined stronger silent strengths (heard ne) (report es fs ys ss) r ne (λ v u. no_more v) (λ e l. by_ends e l _ _ refl refl)
