-- Each turn of a walk takes in one report more; at its end a walk has what all edges report, and the strongest report is the answer. Over variables.
use Rattle.std.proofs.Common.{ℕ, ◌+◌, ◌*◌, ◌≤◌, ◌<◌, min, ◌≡◌, refl, sym, ap, ◌∙◌, subst, List, add-one, arith, length, take, get_or, Err, Ok}
use Rattle.laws.specs.Choice.{pick}
use Rattle.laws.specs.Fold.{up_to, count_to}
use Rattle.laws.specs.Semilattice.{joined}
use Rattle.rules.specs.Reduce.{reduce}
use Rattle.rules.specs.Respond.{edge_response}
use Rattle.rules.specs.declared.index.EdgeIndex.{EdgeIndex}
use Rattle.rules.specs.declared.finding.Length.{Length}
use Rattle.rules.specs.declared.finding.OddRemaining.{OddRemaining}
use Rattle.rules.specs.declared.finding.Finding.TheVariants.{GrowLength}
use Rattle.rules.specs.declared.finding.Finding.{Finding}
use Rattle.rules.specs.Types.{Response, odd_remaining}
use Rattle.places.specs.Ends.{Ends}
use Rattle.places.specs.Places.{edge_in, far_in}
use Rattle.places.specs.Wired.{Wired}
use Rattle.comb_cycle.specs.Listed.{grows_at, listed}
use Rattle.comb_cycle.specs.Rank.{report_in}
use Rattle.comb_cycle.specs.Responses.{responded}
use Rattle.comb_cycle.specs.Strongest.{stronger, strongest_of, report_from, strongest, strongest_at, answer, reduced_with}
use Rattle.comb_cycle.specs.declared.report.Report.{Report}
use Rattle.comb_cycle.specs.declared.report.Report.TheVariants.{Odd, Conflict, Length as LengthOf}
use Rattle.comb_cycle.proofs.Strengths.{strengths}
use Rattle.comb_cycle.proofs.Ranks.{lesser_stronger}
use Rattle.comb_cycle.proofs.Answers.{conflict_below, answered}
use Rattle.comb_cycle.proofs.Covered.{place_report, places_strongest, heard_strongest}
use Rattle.comb_cycle.proofs.Listing.{heard_from, slice_heard}

pub walk_begins : (f : ℕ → Report) → report_in 12_884_901_888 ≡ strongest_of f 0
unfolding strongest_of joined up_to report_in pick
walk_begins f = refl

-- one report more
one_more : (f : ℕ → Report) (k : ℕ) {a x b : Report} → b ≡ stronger a x → x ≡ f k → a ≡ strongest_of f k → b ≡ strongest_of f (k + 1)
unfolding strongest_of joined up_to
one_more f k p q h = rw (add-one k, ← h, ← q) p

-- ---- over the places of v, from start on

module _ (start : Report) where
  pub places_begin : (f : ℕ → Report) → start ≡ stronger start (strongest_of f 0)
  unfolding strongest_of joined up_to
  places_begin f = sym (strengths.unit start)

  module _ (es fs ys ss ps : List ℕ) where
    pub place_turn : (v k x a b : ℕ) {w : ℕ} → report_in x ≡ report_from fs ys ss v (edge_in w) (far_in w) → w ≡ get_or ps (v * 16 + k) 0 → b ≡ min a x
        → report_in a ≡ stronger start (strongest_of (place_report es fs ys ss ps v) k)
        → report_in b ≡ stronger start (strongest_of (place_report es fs ys ss ps v) (k + 1))
    unfolding place_report
    place_turn v k x a b q d p h =
        let f = place_report es fs ys ss ps v in
        rw (p, lesser_stronger a x, h) (strengths.assoc start (strongest_of f k) (report_in x)) ∙ ap (stronger start) (one_more f k refl (q ∙ rw d) refl)

    pub places_end : (v k ne : ℕ) {ds : List ℕ} {n : ℕ} {a : Report} → a ≡ stronger start (strongest_of (place_report es fs ys ss ps v) k) → n ≡ get_or ds v 0 → k ≤ n → n ≤ k
        → Wired es ne ps ds → v < 256 → a ≡ stronger start (strongest_at es fs ys ss ne v)
    places_end v k ne {ds} h d i j w u =
        let z : k ≡ get_or ds v 0 = omega arith in h ∙ rw z (ap (stronger start) (places_strongest es fs ys ss w v u))

-- ---- over the vertices

module _ (es fs ys ss : List ℕ) (ne : ℕ) (xs : List ℕ) where
  pub vertex_turn : (i : ℕ) {a b : Report} → b ≡ stronger a (strongest_at es fs ys ss ne (get_or xs i 0)) → a ≡ strongest_of (heard_from es fs ys ss ne xs) i
      → b ≡ strongest_of (heard_from es fs ys ss ne xs) (i + 1)
  unfolding heard_from
  vertex_turn i p h = one_more (heard_from es fs ys ss ne xs) i p refl h

  pub vertices_end : (ts : List ℕ) (i r : ℕ) {a : Report} → a ≡ strongest_of (heard_from es fs ys ss ne xs) i → length xs ≡ i
      → {n : ℕ} {ls : List ℕ} → xs ≡ take n ls → n ≡ count_to (grows_at ss) r → ls ≡ listed (grows_at ss) ts r → r ≤ length ts
      → {m : ℕ} → r ≡ m → Ends es ne m → a ≡ strongest es fs ys ss ne
  vertices_end ts i r h all slice many which inside same ends =
      h ∙ rw (← all, slice, many, which) (slice_heard es fs ys ss ne ts r inside) ∙ heard_strongest es fs ys ss ne r (subst (λ (q : ℕ). Ends es ne q) (sym same) ends)

-- ---- what is answered: x is the strongest report, whose rank r is, and y what the edge of a conflict responds

module _ (es fs ys ss : List ℕ) (ne r : ℕ) {x : Report} (reads : x ≡ report_in r) (is : report_in r ≡ strongest es fs ys ss ne) where
  -- the strongest conflict is of an edge in the tables
  pub conflict_inside : {e : EdgeIndex} → x ≡ Conflict e → ne ≤ 1_024 → e.0 < 1_024
  conflict_inside {e} q l = let below : e.0 < ne = conflict_below es fs ys ss ne e (sym q ∙ reads ∙ is) in omega arith

  module _ (start : Finding) where
    says : {z : Response} → answer es fs ys ss x ≡ z → reduced_with start z ≡ responded es fs ys ss ne start
    says e = rw (← e, reads, is) (answered es fs ys ss ne start)

    pub says_odd : x ≡ Odd → Err odd_remaining ≡ responded es fs ys ss ne start
    says_odd q = says (ap (answer es fs ys ss) q)

    -- n is the edge's index
    module _ {e : EdgeIndex} {n : ℕ} {y : Response} (q : x ≡ Conflict e) (m : n ≡ e.0) (p : y ≡ edge_response es fs ys ss n) where
      says_edge : answer es fs ys ss x ≡ y
      says_edge = ap (answer es fs ys ss) q ∙ sym (p ∙ ap (edge_response es fs ys ss) m)

      pub says_odd_edge : {o : OddRemaining} → y ≡ Err o → Err o ≡ responded es fs ys ss ne start
      says_odd_edge f = says (says_edge ∙ f)

      pub says_conflict : {g h : Finding} → y ≡ Ok g → h ≡ reduce start g → Ok h ≡ responded es fs ys ss ne start
      says_conflict f i = ap Ok i ∙ says (says_edge ∙ f)

    pub says_length : {l : Length} {h : Finding} → x ≡ LengthOf l → h ≡ reduce start (GrowLength l) → Ok h ≡ responded es fs ys ss ne start
    says_length q m = ap Ok m ∙ says (ap (answer es fs ys ss) q)

pub ruleset walks = (walk_begins, places_begin, place_turn, places_end, vertex_turn, vertices_end)

pub ruleset responds = (conflict_inside, says_odd, says_odd_edge)
