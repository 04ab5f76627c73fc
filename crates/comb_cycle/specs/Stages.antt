-- What stage 3, and stages 4 to 8, leave and answer.
use Rattle.std.specs.Prelude.{ℕ, ◌≡◌, Bool, List, Result}
use Rattle.std.proofs.Math.Option.{none}
use Rattle.laws.specs.Table.{paint}
use Rattle.rules.specs.Execute.{executed, execute_refusal}
use Rattle.rules.specs.Update.{updated}
use Rattle.rules.specs.Shadow.{shadows}
use Rattle.rules.specs.Reduce.{vertex_finding}
use Rattle.rules.specs.declared.instruction.Instruction.{Instruction}
use Rattle.rules.specs.declared.refusal.Refusal.{Refusal}
use Rattle.rules.specs.Types.{Response}
use Rattle.comb_vertex.specs.Execution.{execution, Shows}
use Rattle.comb_cycle.specs.Responses.{responded}

-- the registers are shown as after stage 3 where it is not refused
pub record Ran (vs rs : List ℕ) (stalled : List Bool) (i : Instruction) (nv : ℕ) (r : Result Unit Refusal) (xs : List ℕ) : Type 0 where
  pub answer : r ≡ execution (execute_refusal vs rs stalled i nv)
  pub registers : execute_refusal vs rs stalled i nv ≡ none → Shows nv xs (executed vs rs stalled i nv)

-- two tables that are the same from n on
pub record Beyond (n : ℕ) (xs ys : List ℕ) : Type 0 where
  pub same : (f : ℕ → ℕ) → paint n f xs ≡ paint n f ys

pub record Settles (vs es fs xs : List ℕ) (stalled : List Bool) (ne nv : ℕ) (r : Response) (ys : List ℕ) : Type 0 where
  pub registers : ys ≡ updated es fs xs ne nv
  pub answer : r ≡ responded es fs ys (shadows vs es fs xs ys stalled ne nv) ne (vertex_finding ys nv)
