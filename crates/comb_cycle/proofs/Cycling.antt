-- The three ends of a cycle, over variables: stage 3 refuses, an edge is odd, or all is written together.
use Rattle.std.proofs.Common.{ℕ, ◌≤◌, ◌≡◌, Bool, true, false, List, replicate, refl, sym, ap, ◌∙◌, arith, Result, Ok, Err}
use Rattle.std.proofs.Math.Option.{Option, none, some}
use Rattle.laws.specs.Choice.{pick}
use Rattle.laws.specs.Fold.{up_to}
use Rattle.rules.specs.Fetch.{fetched}
use Rattle.rules.specs.Units.{stalled_vertices, stalled_edges}
use Rattle.rules.specs.Execute.{executed, execute_refusal}
use Rattle.rules.specs.Update.{updated}
use Rattle.rules.specs.Shadow.{shadows}
use Rattle.laws.specs.Table.{paint}
use Rattle.rules.specs.Reduce.{some_odd, finding, vertex_finding}
use Rattle.places.specs.Wired.{Wired}
use Rattle.comb_settle.specs.Settled.{updated_word, shadow_word}
use Rattle.comb_cycle.proofs.Staging.{settles}
use Rattle.rules.specs.Instruct.{refused, concluded, settled, carried, step}
use Rattle.rules.specs.declared.graph.Graph.{Graph}
use Rattle.rules.specs.declared.state.Cycle.{Cycle}
use Rattle.rules.specs.declared.state.State.{State}
use Rattle.rules.specs.declared.finding.Finding.{Finding}
use Rattle.rules.specs.Types.{Answer, Response, odd_remaining}
use Rattle.rules.specs.declared.instruction.Instruction.{Instruction}
use Rattle.rules.specs.declared.refusal.Refusal.{Refusal}
use Rattle.rules.specs.declared.refusal.Refusal.TheVariants as R
use Rattle.comb_vertex.specs.Execution.{execution, paint_over}
use Rattle.comb_cycle.proofs.Showing.{updated_shown, shadows_shown}
use Rattle.comb_cycle.specs.Responses.{finding_to, responded}
use Rattle.comb_cycle.specs.Stages.{Ran, Beyond, Settles}

-- without units no edge is stalled
pub none_held : (es rs fs us : List ℕ) (ne nu : ℕ) {held : List Bool} {m : ℕ} → held ≡ stalled_edges es rs fs ne us nu → m ≡ nu → m ≡ 0 → held ≡ replicate 1_024 false
unfolding stalled_edges up_to
none_held es rs fs us ne nu h e z = let y : nu ≡ 0 = omega arith in h ∙ rw y

none_by : (o : Option Refusal) (e : Result Unit Refusal) → e ≡ execution o → e ≡ Ok tt → o ≡ none
none_by none e p q = refl
none_by (some n) e p q = cc

some_by : (o : Option Refusal) (e : Result Unit Refusal) (r : Refusal) → e ≡ execution o → e ≡ Err r → o ≡ some r
some_by none e r p q = cc
some_by (some n) e r p q = cc

-- where stage 3 is done, the table before and the table after it are the same beyond the vertices
beyond_made : (vs rs xs : List ℕ) (st : List Bool) (i : Instruction) (nv : ℕ) (e : Result Unit Refusal) → Ran vs rs st i nv e xs → e ≡ Ok tt → Beyond nv rs xs
unfolding executed
beyond_made vs rs xs st i nv e ran q = record { same = λ f. sym ((ran.registers (none_by _ e ran.answer q)).beyond f ∙ paint_over f _ nv rs) }

odd_when : (b : Bool) (f : Finding) → Err odd_remaining ≡ pick b (Err odd_remaining) (Ok f) → b ≡ true
unfolding pick
odd_when true f e = refl
odd_when false f e = cc

reports_when : (b : Bool) (f h : Finding) → Ok h ≡ pick b (Err odd_remaining) (Ok f) → (b ≡ false) × (h ≡ f)
unfolding pick
reports_when true f h e = (cc, cc)
reports_when false f h e = (refl, cc)

module _ (nv ne nu : ℕ) (vs es us ds xs : List ℕ) (s : State) (st : List Bool) (i : Instruction) (e : Result Unit Refusal)
    (w : st ≡ stalled_vertices es s.registers (fetched es s.registers s.weights ne) ne us nu) (ran : Ran vs s.registers st i nv e xs) where
  abbrev g : Graph
  g = record { nv = nv; ne = ne; nu = nu; vertices = vs; edges = es; weights = ds; units = us }

  abbrev fs : List ℕ
  fs = fetched es s.registers s.weights ne

  step_is : (o : Option Refusal) → execute_refusal vs s.registers st i nv ≡ o → step g s i ≡ carried g s (executed vs s.registers st i nv) o
  unfolding step
  step_is o h = rw (← h, w)

  pub cycle_refused : (r : Refusal) → e ≡ Err r → {a : Answer} → a ≡ Err r → record { state = s; answer = a } ≡ step g s i
  cycle_refused r q p = rw p (sym (step_is (some r) (some_by _ e r ran.answer q)))

  -- stage 3 is done, and stages 4 to 7 give the registers ys, the shadows zs, the finding f and the response r
  module _ (q : e ≡ Ok tt) (l : nv ≤ 256) {ps dd ys zs : List ℕ} {held : List Bool} {f : Finding} {r : Response} (wired : Wired es ne ps dd)
      (h : held ≡ stalled_edges es s.registers fs ne us nu)
      (update : ys ≡ paint nv (updated_word es fs xs ps dd) s.registers) (shadow : zs ≡ paint nv (shadow_word vs es fs xs ps dd st) xs)
      (told : f ≡ vertex_finding ys nv) (response : r ≡ responded es fs ys zs ne f) where
    t : Settles vs es fs xs st ne nv r ys
    t = settles _ _ _ _ _ _ _ _ _ _ _ _ _ _ update shadow told response l (beyond_made _ _ _ _ _ _ _ ran q) wired

    abbrev ss : List ℕ
    ss = shadows vs es fs xs ys st ne nv

    -- stage 3's own table
    abbrev made : List ℕ
    made = executed vs s.registers st i nv

    abbrev settled_on : List ℕ → List ℕ → Cycle
    settled_on zs ys = concluded g s fs held zs (shadows vs es fs ys zs st ne nv)

    settled_on_lem : settled g s made ≡ settled_on (updated es fs made ne nv) made
    unfolding settled
    settled_on_lem = rw (h, w)

    settled_is : step g s i ≡ concluded g s fs held ys ss
    settled_is =
        let fine : execute_refusal vs s.registers st i nv ≡ none = none_by _ e ran.answer q in
        let shows = ran.registers fine in
        let u : updated es fs made ne nv ≡ ys = sym (t.registers ∙ updated_shown es fs ne nv shows) in
        step_is none fine ∙ settled_on_lem ∙ ap (λ (zs : List ℕ). settled_on zs made) u
        ∙ ap (λ (zs : List ℕ). concluded g s fs held ys zs) (sym (shadows_shown es fs ne nv shows vs ys st))

    answered : r ≡ pick (some_odd es fs ys ss ne) (Err odd_remaining) (Ok (finding es fs ys ss ne nv))
    unfolding responded finding_to finding
    answered = t.answer

    ends_odd : some_odd es fs ys ss ne ≡ true → concluded g s fs held ys ss ≡ refused s R.OddRemaining
    unfolding concluded pick
    ends_odd p = rw p

    pub cycle_odd : r ≡ Err odd_remaining → refused s R.OddRemaining ≡ step g s i
    cycle_odd p = sym (settled_is ∙ ends_odd (odd_when (some_odd es fs ys ss ne) (finding es fs ys ss ne nv) (sym p ∙ answered)))

    ends_found : {d : Finding} → some_odd es fs ys ss ne ≡ false → d ≡ finding es fs ys ss ne nv
        → concluded g s fs held ys ss ≡ record { state = record { registers = ys; weights = s.weights; stalled = held; maximum = s.maximum }; answer = Ok d }
    unfolding concluded pick
    ends_found p q = rw (p, q)

    pub cycle_found : {d : Finding} {out : List Bool} → r ≡ Ok d → out ≡ held
        → record { state = record { registers = ys; weights = s.weights; stalled = out; maximum = s.maximum }; answer = Ok d } ≡ step g s i
    cycle_found {d} p same =
        let k = reports_when (some_odd es fs ys ss ne) (finding es fs ys ss ne nv) d (sym p ∙ answered) in
        rw same (sym (settled_is ∙ ends_found k.0 k.1))

pub ruleset cycles = (none_held, cycle_refused, cycle_odd, cycle_found)
