-- What the turns of the stage 3 loop and its ways out show, over variables: x is what stage 3 makes of vertex v.
use Rattle.std.proofs.Common.{ℕ, ◌+◌, ◌≤◌, ◌<◌, ◌≡◌, sym, ◌∙◌, Bool, true, false, List, arith, Result, Ok, Err, IsErrAnd, get_or}
use Rattle.std.proofs.Math.Option.{none}
use Rattle.laws.specs.Choice.{pick}
use Rattle.laws.specs.First.{first_none, first_pass, first_stop}
use Rattle.laws.specs.Leading.{leading_none, leading_pass, leading_stop}
use Rattle.laws.specs.Table.{paint, paint_none, paint_step}
use Rattle.rules.specs.Graph.{layer_of}
use Rattle.rules.specs.Registers.{at, keep}
use Rattle.rules.specs.Execute.{still, execute_at, execute_refusal, refusal_of, refusal_for}
use Rattle.rules.specs.declared.instruction.Instruction.{Instruction}
use Rattle.rules.specs.declared.refusal.Refusal.{Refusal}
use Rattle.rules.specs.declared.registers.VertexRegisters.{VertexRegisters}
use Rattle.rules.specs.Types.{Executed}
use Rattle.rules.specs.declared.registers.MoveError.{MoveError}
use Rattle.comb_vertex.specs.Execution.{execution, is_done, concerns, unconcerned, executed_word, executed_count, executed_into}

module _ (vs rs : List ℕ) (stalled : List Bool) (i : Instruction) where
  pub start_refusal : execute_refusal vs rs stalled i 0 ≡ none
  unfolding execute_refusal
  start_refusal = first_none (λ v. refusal_of (execute_at vs rs stalled i v))

  pub start_count : executed_count vs rs stalled i 0 ≡ 0
  unfolding executed_count
  start_count = leading_none (λ v. is_done (execute_at vs rs stalled i v))

  module _ (v : ℕ) (x : Executed) (t : x ≡ execute_at vs rs stalled i v) where
    module _ (y : VertexRegisters) (e : x ≡ Ok y) where
      done_at_lem : execute_at vs rs stalled i v ≡ Ok y
      done_at_lem = sym t ∙ e

      pub turn_refusal : execute_refusal vs rs stalled i v ≡ none → execute_refusal vs rs stalled i (v + 1) ≡ none
      unfolding execute_refusal
      turn_refusal p = first_pass v (λ w. refusal_of (execute_at vs rs stalled i w)) p (rw done_at_lem)

      pub turn_count : executed_count vs rs stalled i v ≡ v → executed_count vs rs stalled i (v + 1) ≡ v + 1
      unfolding executed_count
      turn_count p = leading_pass (λ w. is_done (execute_at vs rs stalled i w)) v p (rw done_at_lem)

      pub turn_word : (z : ℕ) (b : Bool) → z ≡ keep y → b ≡ true → b ≡ concerns i v (at rs v) → z ≡ executed_word vs rs stalled i v
      unfolding executed_word pick
      turn_word z true p q c = rw (← c, done_at_lem, p)
      turn_word z false p q c = cc

  -- the vertex v is refused
  module _ {v n m : ℕ} {w : MoveError} (t : Err w ≡ execute_at vs rs stalled i v) (l : v < n) (k : n ≡ m) where
    pub stop_answer : (r : Result Unit Refusal) → IsErrAnd r (λ f. f ≡ refusal_for w) → execute_refusal vs rs stalled i v ≡ none
        → r ≡ execution (execute_refusal vs rs stalled i m)
    unfolding execute_refusal
    stop_answer (Ok _) q p = absurd q
    stop_answer (Err f) q p = rw (first_stop v m (λ u. refusal_of (execute_at vs rs stalled i u)) f (omega arith) p (rw (← t, q)))

    stop_count : executed_count vs rs stalled i v ≡ v → executed_count vs rs stalled i m ≡ v
    unfolding executed_count
    stop_count p = leading_stop (λ u. is_done (execute_at vs rs stalled i u)) v m p (rw (← t)) (omega arith)

    pub stop_table : (xs ys : List ℕ) → ys ≡ paint v (executed_word vs rs stalled i) xs → executed_count vs rs stalled i v ≡ v
        → ys ≡ executed_into vs rs stalled i m xs
    unfolding executed_into
    stop_table xs ys q p = rw (stop_count p) q

  -- a vertex that is not concerned
  module _ (v : ℕ) (b : Bool) (c : b ≡ concerns i v (at rs v)) where
    off : b ≡ false → concerns i v (at rs v) ≡ false
    off q = sym c ∙ q

    rests : b ≡ false → execute_at vs rs stalled i v ≡ Ok (at rs v)
    unfolding execute_at
    rests q = unconcerned i v (layer_of vs v) (still vs rs stalled i v) (at rs v) (off q)

    pub rest_refusal : b ≡ false → execute_refusal vs rs stalled i v ≡ none → execute_refusal vs rs stalled i (v + 1) ≡ none
    unfolding execute_refusal
    rest_refusal q p = first_pass v (λ w. refusal_of (execute_at vs rs stalled i w)) p (rw (rests q))

    pub rest_count : b ≡ false → executed_count vs rs stalled i v ≡ v → executed_count vs rs stalled i (v + 1) ≡ v + 1
    unfolding executed_count
    rest_count q p = leading_pass (λ w. is_done (execute_at vs rs stalled i w)) v p (rw (rests q))

    pub rest_word : (z : ℕ) → z ≡ get_or rs v 0 → b ≡ false → z ≡ executed_word vs rs stalled i v
    unfolding executed_word pick
    rest_word z p q = rw (off q, p)

  module _ {v n m : ℕ} (l : v ≤ n) (g : n ≤ v) (k : n ≡ m) where
    pub end_answer : execute_refusal vs rs stalled i v ≡ none → Ok tt ≡ execution (execute_refusal vs rs stalled i m)
    end_answer p = let z : m ≡ v = omega arith in rw (z, p)

    pub end_table : (xs ys : List ℕ) → ys ≡ paint v (executed_word vs rs stalled i) xs → executed_count vs rs stalled i v ≡ v
        → ys ≡ executed_into vs rs stalled i m xs
    unfolding executed_into
    end_table xs ys q p = let z : m ≡ v = omega arith in rw (z, p, q)

pub ruleset executing =
    (start_refusal, start_count, turn_refusal, turn_count, turn_word, rest_refusal, rest_count, rest_word, end_answer, end_table, paint_none, paint_step)
