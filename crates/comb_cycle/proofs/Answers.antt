-- The strongest report says what stages 7 and 8 answer: edge by edge, a report joins the ones before it as its response does theirs, since the
-- first conflict has the lesser edge index.
use Rattle.std.proofs.Common.{ℕ, zero, suc, ◌<◌, min, ◌≡◌, refl, sym, ap, subst, ◌∙◌, Bool, true, false, List, arith, Err, Ok}
use Rattle.laws.specs.Choice.{◌or◌, pick}
use Rattle.laws.specs.Fold.{up_to}
use Rattle.laws.specs.Semilattice.{joined}
use Rattle.rules.specs.Respond.{edge_response}
use Rattle.rules.specs.Reduce.{reduce, odd, reported, some_odd}
use Rattle.rules.specs.declared.index.EdgeIndex.{EdgeIndex}
use Rattle.rules.specs.declared.finding.Length.TheVariants.{NoLimit}
use Rattle.rules.specs.declared.finding.Finding.{Finding}
use Rattle.rules.specs.declared.finding.Finding.TheVariants.{GrowLength, Conflict}
use Rattle.rules.specs.Types.{Response, odd_remaining}
use Rattle.interface.proofs.Join.{reduce_assoc, reduce_unit_right}
use Rattle.comb_cycle.specs.Responses.{finding_to, responded}
use Rattle.comb_cycle.specs.Strongest.{stronger, strongest_of, report_of, report, strongest, answer, reduced_with}
use Rattle.comb_cycle.specs.declared.report.Report.{Report}
use Rattle.comb_cycle.specs.declared.report.Report.TheVariants.{Odd, Conflict as ConflictAt, Length as LengthOf}

-- two responses as one
abbrev both : Response → Response → Response
both (Err _) s = Err odd_remaining
both (Ok f) (Err _) = Err odd_remaining
both (Ok f) (Ok g) = Ok (reduce f g)

both_odd : (r : Response) → both r (Err odd_remaining) ≡ Err odd_remaining
both_odd (Ok f) = refl
both_odd (Err _) = refl

abbrev is_conflict : Response → Bool
is_conflict (Ok (GrowLength l)) = false
is_conflict (Ok (Conflict a b)) = true
is_conflict (Err _) = false

conflict_stays : (r : Response) (g : Finding) → is_conflict r ≡ true → both r (Ok g) ≡ r
conflict_stays (Ok (GrowLength l)) g h = cc
conflict_stays (Ok (Conflict a b)) g h = refl
conflict_stays (Err _) g h = refl

-- one response more
more : (b : Bool) (f : Finding) (s : Response) → pick (b or odd s) (Err odd_remaining) (Ok (reduce f (reported s))) ≡ both (pick b (Err odd_remaining) (Ok f)) s
unfolding pick ◌or◌
more true f s = refl
more false f (Ok g) = refl
more false f (Err _) = refl

with_start : (b : Bool) (start f : Finding) → pick b (Err odd_remaining) (Ok (reduce start f)) ≡ reduced_with start (pick b (Err odd_remaining) (Ok f))
unfolding pick
with_start true start f = refl
with_start false start f = refl

module _ (es fs ys ss : List ℕ) where
  abbrev found : ℕ → Response
  found n = responded es fs ys ss n (GrowLength NoLimit)

  found_more : (n : ℕ) → found (suc n) ≡ both (found n) (edge_response es fs ys ss n)
  unfolding responded some_odd finding_to up_to
  found_more n = more (some_odd es fs ys ss n) (finding_to es fs ys ss (GrowLength NoLimit) n) (edge_response es fs ys ss n)

  finding_from : (start : Finding) (n : ℕ) → finding_to es fs ys ss start n ≡ reduce start (finding_to es fs ys ss (GrowLength NoLimit) n)
  unfolding finding_to up_to
  finding_from start zero = sym (reduce_unit_right start)
  finding_from start (suc n) = rw (finding_from start n) (reduce_assoc start _ _)

  found_from : (start : Finding) (n : ℕ) → responded es fs ys ss n start ≡ reduced_with start (found n)
  unfolding responded
  found_from start n = rw (finding_from start n) (with_start (some_odd es fs ys ss n) start (finding_to es fs ys ss (GrowLength NoLimit) n))

  -- a conflict among the first n edges
  abbrev Known : ℕ → Report → Type 0
  Known n Odd = Unit {0}
  Known n (ConflictAt e) = (e.0 < n) × (is_conflict (edge_response es fs ys ss e.0) ≡ true)
  Known n (LengthOf l) = Unit {0}

  module _ (n : ℕ) where
    abbrev Joins : Report → Response → Type 0
    Joins x s = (answer es fs ys ss (stronger x (report_of n s)) ≡ both (answer es fs ys ss x) s) × Known (suc n) (stronger x (report_of n s))

    joins : (x : Report) (s : Response) → edge_response es fs ys ss n ≡ s → Known n x → Joins x s
    joins Odd s q k = (refl, tt)
    joins (ConflictAt e) (Err _) q k = (sym (both_odd (edge_response es fs ys ss e.0)), tt)
    joins (ConflictAt e) (Ok (Conflict a b)) q k =
        let z : min e.0 n ≡ e.0 = omega arith in
        rw z (sym (conflict_stays (edge_response es fs ys ss e.0) (Conflict a b) k.1), (omega arith, k.1))
    joins (ConflictAt e) (Ok (GrowLength m)) q k =
        (sym (conflict_stays (edge_response es fs ys ss e.0) (GrowLength m) k.1), (omega arith, k.1))
    joins (LengthOf l) (Err _) q k = (refl, tt)
    joins (LengthOf l) (Ok (Conflict a b)) q k = (q, (omega arith, rw q))
    joins (LengthOf l) (Ok (GrowLength m)) q k = (refl, tt)

  says : (n : ℕ) → (answer es fs ys ss (strongest es fs ys ss n) ≡ found n) × Known n (strongest es fs ys ss n)
  unfolding strongest strongest_of joined report up_to responded some_odd finding_to pick
  says zero = (refl, tt)
  says (suc n) =
      let h = says n in
      let j = joins n (strongest es fs ys ss n) (edge_response es fs ys ss n) refl h.1 in
      (j.0 ∙ ap (λ (r : Response). both r (edge_response es fs ys ss n)) h.0 ∙ sym (found_more n), j.1)

  pub conflict_below : (n : ℕ) (e : EdgeIndex) → ConflictAt e ≡ strongest es fs ys ss n → e.0 < n
  conflict_below n e q = (subst (Known n) (sym q) (says n).1).0

  pub answered : (n : ℕ) (start : Finding) → reduced_with start (answer es fs ys ss (strongest es fs ys ss n)) ≡ responded es fs ys ss n start
  answered n start = rw (says n).0 (sym (found_from start n))
