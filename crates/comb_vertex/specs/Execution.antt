-- What stage 3 answers, and what it has written when it does: the vertices before the one that is refused.
-- A vertex that the instruction does not concern keeps its word as it is, so what is written shows the registers after stage 3.
use Rattle.std.specs.Prelude.{ℕ, zero, suc, ◌≡◌, Bool, true, false, Result, Ok, Err, eqb, get_or, List, [], ◌∷◌}
use Rattle.std.proofs.Common.{◌∙◌, add-one}
use Rattle.std.proofs.Math.Path.{refl, sym, ap}
use Rattle.std.proofs.Math.Option.{Option, none, some}
use Rattle.laws.specs.Choice.{◌or◌, pick, by_test}
use Rattle.laws.specs.First.{first, or_else}
use Rattle.laws.specs.Leading.{leading, leading_none, leading_pass}
use Rattle.laws.specs.Table.{paint, paint_from}
use Rattle.rules.specs.Graph.{layer_of}
use Rattle.rules.specs.Registers.{at, view, keep, same_node, growing, shrinking}
use Rattle.rules.proofs.Round.{at_in_range, round}
use Rattle.rules.specs.Execute.{not_virtual, moved, execute, still, execute_at, execute_refusal, executed, refusal_of, done_or}
use Rattle.rules.specs.declared.instruction.CompactGrowState.{CompactGrowState}
use Rattle.rules.specs.declared.instruction.CompactGrowState.TheVariants.{Stay, Grow, Shrink}
use Rattle.rules.specs.declared.instruction.Instruction.{Instruction}
use Rattle.rules.specs.declared.instruction.Instruction.TheVariants.{SetSpeed, SetBlossom, AddDefectVertex, FindObstacle, Grow as GrowBy, LoadDefectsExternal}
use Rattle.rules.specs.declared.refusal.Refusal.{Refusal}
use Rattle.rules.specs.declared.registers.VertexRegisters.{VertexRegisters}
use Rattle.rules.specs.Types.{Executed}

abbrev pub execution : Option Refusal → Result Unit Refusal
execution none = Ok tt
execution (some n) = Err n

abbrev pub is_done : Executed → Bool
is_done (Ok x) = true
is_done (Err e) = false

-- whether instruction i may change the registers x of vertex v
abbrev pub concerns : Instruction → ℕ → VertexRegisters → Bool
concerns (SetSpeed n s) v x = same_node x.node n
concerns (SetBlossom n b) v x = same_node x.node n or same_node x.root n
concerns (AddDefectVertex w n) v x = eqb w.0 v
concerns FindObstacle v x = false
concerns (GrowBy l) v x = growing x.speed or shrinking x.speed
concerns (LoadDefectsExternal t) v x = x.is_virtual

-- the table xs shows the registers that ys holds, and is ys from n on
pub record Shows (n : ℕ) (xs ys : List ℕ) : Type 0 where
  pub same : (v : ℕ) → at xs v ≡ at ys v
  pub beyond : (f : ℕ → ℕ) → paint n f xs ≡ paint n f ys

-- ---- what is not concerned stays

at_rest : (s : CompactGrowState) (l : ℕ) (still : Bool) (x : VertexRegisters) → (growing s or shrinking s) ≡ false → pick still (Ok x) (moved s l x) ≡ Ok x
unfolding pick moved ◌or◌
at_rest Stay l true x h = refl
at_rest Stay l false x h = refl
at_rest Grow l still x h = cc
at_rest Shrink l still x h = cc

not_virtual_lem : (b : Bool) (x : VertexRegisters) → x.is_virtual ≡ false → pick b (not_virtual x) x ≡ x
unfolding pick
not_virtual_lem true x h =
    ap (λ (b : Bool). record { speed = x.speed; grown = x.grown; is_virtual = b; is_defect = x.is_defect; node = x.node; root = x.root }) (sym h)
not_virtual_lem false x h = refl

pub unconcerned : (i : Instruction) (v layer : ℕ) (still : Bool) (x : VertexRegisters) → concerns i v x ≡ false → execute i v layer still x ≡ Ok x
unfolding execute pick
unconcerned (SetSpeed n s) v layer still x h = rw h
unconcerned (SetBlossom n b) v layer still x h = rw h
unconcerned (AddDefectVertex w n) v layer still x h = rw h
unconcerned FindObstacle v layer still x h = refl
unconcerned (GrowBy l) v layer still x h = at_rest x.speed l still x h
unconcerned (LoadDefectsExternal t) v layer still x h = ap Ok (not_virtual_lem (eqb layer t.0) x h)

or_first : {B : Type 0} (a b : Option B) → or_else a b ≡ none → a ≡ none
or_first none b h = refl
or_first (some x) b h = h

or_second : {B : Type 0} (a b : Option B) → or_else a b ≡ none → b ≡ none
or_second none b h = h
or_second (some x) b h = cc

-- ---- tables that show the same

module _ {A : Type 0} (f g : ℕ → A) where
  over_from : (i n : ℕ) (xs : List A) → paint_from i n f (paint_from i n g xs) ≡ paint_from i n f xs
  unfolding paint_from
  over_from i zero xs = refl
  over_from i (suc n) [] = refl
  over_from i (suc n) (x ∷ xs) = ap (λ (t : List A). f i ∷ t) (over_from (suc i) n xs)

  pub paint_over : (n : ℕ) (xs : List A) → paint n f (paint n g xs) ≡ paint n f xs
  unfolding paint
  paint_over n xs = over_from 0 n xs

module _ (f g : ℕ → ℕ) (h : (k : ℕ) → view (f k) ≡ view (g k)) where
  shows_from : (i n : ℕ) (xs : List ℕ) (v : ℕ) → view (get_or (paint_from i n f xs) v 0) ≡ view (get_or (paint_from i n g xs) v 0)
  unfolding paint_from
  shows_from i zero xs v = refl
  shows_from i (suc n) [] v = refl
  shows_from i (suc n) (x ∷ xs) zero = h i
  shows_from i (suc n) (x ∷ xs) (suc v) = shows_from (suc i) n xs v

  paint_shows : (n : ℕ) (xs : List ℕ) (v : ℕ) → at (paint n f xs) v ≡ at (paint n g xs) v
  unfolding paint at
  paint_shows n xs v = shows_from 0 n xs v

module _ (vs rs : List ℕ) (stalled : List Bool) (i : Instruction) where
  unfoldable pub executed_word : ℕ → ℕ
  executed_word v = pick (concerns i v (at rs v)) (keep (done_or (at rs v) (execute_at vs rs stalled i v))) (get_or rs v 0)

  unfoldable pub executed_count : ℕ → ℕ
  executed_count nv = leading (λ v. is_done (execute_at vs rs stalled i v)) nv

  -- what the table out holds then
  unfoldable pub executed_into : ℕ → List ℕ → List ℕ
  executed_into nv out = paint (executed_count nv) executed_word out

  at_view : (v : ℕ) → view (get_or rs v 0) ≡ at rs v
  unfolding at
  at_view v = refl

  -- ---- where none is refused, and the table held the registers before, it shows those after stage 3

  done_where : (x : Executed) → refusal_of x ≡ none → is_done x ≡ true
  done_where (Ok y) h = refl
  done_where (Err e) h = cc

  abbrev refusal_at : ℕ → Option Refusal
  refusal_at v = refusal_of (execute_at vs rs stalled i v)

  all_done : (n : ℕ) → execute_refusal vs rs stalled i n ≡ none → executed_count n ≡ n
  unfolding execute_refusal executed_count first
  all_done zero h = leading_none (λ v. is_done (execute_at vs rs stalled i v))
  all_done (suc n) h =
      let below = or_first (first n refusal_at) (refusal_at n) h in
      let here = or_second (first n refusal_at) (refusal_at n) h in
      rw (add-one n) at (leading_pass (λ v. is_done (execute_at vs rs stalled i v)) n (all_done n below) (done_where (execute_at vs rs stalled i n) here))

  shown : (v : ℕ) → view (executed_word v) ≡ view (keep (done_or (at rs v) (execute_at vs rs stalled i v)))
  unfolding executed_word execute_at
  shown v =
      by_test (λ (w : ℕ). view w ≡ view (keep (done_or (at rs v) (execute i v (layer_of vs v) (still vs rs stalled i v) (at rs v))))) (concerns i v (at rs v)) (λ t. refl)
      (λ t. rw (unconcerned i v (layer_of vs v) (still vs rs stalled i v) (at rs v) t) (at_view v ∙ sym (round (at rs v) (at_in_range rs v))))

  pub executed_all : (n : ℕ) → execute_refusal vs rs stalled i n ≡ none → Shows n (executed_into n rs) (executed vs rs stalled i n)
  unfolding executed_into executed
  executed_all n h =
      rw (all_done n h)
      (record { same = λ v. paint_shows _ _ shown n rs v; beyond = λ f. paint_over f _ n rs ∙ sym (paint_over f _ n rs) })
