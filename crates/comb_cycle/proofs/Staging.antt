-- Each stage's answer is document 01's, over variables: blank tables and counts that fit make the code's fold the definition's.
use Rattle.std.proofs.Common.{Result, Ok, ℕ, ◌≤◌, ◌≡◌, refl, sym, ap, ◌∙◌, Bool, false, List, get_or, replicate}
use Rattle.std.proofs.Math.Option.{Option, none}
use Rattle.laws.specs.First.{first_has}
use Rattle.laws.specs.Table.{paint, paint_at}
use Rattle.rules.specs.Units.{stalls, stalled_vertices, stalled_edges}
use Rattle.rules.specs.Execute.{execute, execute_at, execute_refusal, executed}
use Rattle.rules.specs.Registers.{at, view}
use Rattle.rules.proofs.Round.{at_in_range, round}
use Rattle.rules.specs.Update.{updated}
use Rattle.rules.specs.Reduce.{vertex_finding}
use Rattle.rules.specs.declared.instruction.Instruction.{Instruction}
use Rattle.rules.specs.declared.instruction.Instruction.TheVariants.{FindObstacle}
use Rattle.rules.specs.declared.refusal.Refusal.{Refusal}
use Rattle.rules.specs.declared.finding.Finding.{Finding}
use Rattle.rules.specs.Types.{Response}
use Rattle.places.specs.Wired.{Wired}
use Rattle.comb_offloading.specs.Offload.{stalls_edge, by_units, blank_vertices, blank_edges}
use Rattle.comb_settle.specs.Settled.{updated_word, shadow_word}
use Rattle.comb_settle.specs.Wiring.{updated_by, shadows_by}
use Rattle.comb_vertex.specs.Execution.{execution, executed_into, executed_all, paint_over}
use Rattle.comb_cycle.specs.Responses.{responded}
use Rattle.comb_cycle.specs.Stages.{Ran, Beyond, Settles}

module _ (es rs fs us : List ℕ) (ne nu : ℕ) (out blank : List Bool) where
  pub vertices_made : out ≡ by_units es rs fs ne (stalls es rs fs ne) us blank nu → blank ≡ replicate 256 false
      → out ≡ stalled_vertices es rs fs ne us nu
  vertices_made p b = rw (p, b) (blank_vertices es rs fs ne us nu)

  pub edges_made : out ≡ by_units es rs fs ne stalls_edge us blank nu → blank ≡ replicate 1_024 false
      → out ≡ stalled_edges es rs fs ne us nu
  edges_made p b = rw (p, b) (blank_edges es rs fs ne us nu)

pub ran : (vs rs xs next : List ℕ) (stalled : List Bool) (i : Instruction) (nv : ℕ) (e : Result Unit Refusal) → e ≡ execution (execute_refusal vs rs stalled i nv)
    → xs ≡ executed_into vs rs stalled i nv next → next ≡ rs → Ran vs rs stalled i nv e xs
ran vs rs xs next stalled i nv e p q n = record { answer = p; registers = λ h. rw (q, n) (executed_all vs rs stalled i nv h) }

-- FindObstacle leaves each vertex, and so the table
find_ran : (vs rs : List ℕ) (stalled : List Bool) (nv : ℕ) → Ran vs rs stalled FindObstacle nv (Ok tt) rs
unfolding execute_refusal executed execute_at execute at
find_ran vs rs stalled nv = record {
  answer = ap execution (sym (first_has (λ (o : Option Refusal). o ≡ none) refl nv _ (λ v l. refl)));
  registers = λ h. record {
    same = λ v. sym (paint_at _ (λ (w : ℕ). view w ≡ view (get_or rs v 0)) 0 nv rs v (λ l. round (at rs v) (at_in_range rs v)) refl);
    beyond = λ f. sym (paint_over f _ nv rs);
  };
}

pub finds : (vs rs xs : List ℕ) (stalled : List Bool) (nv : ℕ) (i : Instruction) → i ≡ FindObstacle → xs ≡ rs → Ran vs rs stalled i nv (Ok tt) xs
finds vs rs xs stalled nv i is same = rw (is, same) (find_ran vs rs stalled nv)

pub settles : (vs es fs xs rs ys ss ps ds : List ℕ) (stalled : List Bool) (ne nv : ℕ) (f : Finding) (r : Response)
    → ys ≡ paint nv (updated_word es fs xs ps ds) rs → ss ≡ paint nv (shadow_word vs es fs xs ps ds stalled) xs
    → f ≡ vertex_finding ys nv → r ≡ responded es fs ys ss ne f → nv ≤ 256 → Beyond nv rs xs → Wired es ne ps ds
    → Settles vs es fs xs stalled ne nv r ys
settles vs es fs xs rs ys ss ps ds stalled ne nv f r a b c d l q w =
    let made : ys ≡ updated es fs xs ne nv = a ∙ q.same (updated_word es fs xs ps ds) ∙ updated_by w fs xs nv l in
    record {
      registers = made;
      answer = rw (d, c, b) (ap (λ (x : List ℕ). responded es fs ys x ne (vertex_finding ys nv)) (rw made (shadows_by w fs xs vs stalled nv l)));
    }
