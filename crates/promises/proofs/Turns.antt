-- What one turn of a search does, said once: it stops on its finding, or it takes one step. Every fact about searches reads these fields.
use Prim.Native.Nat.{ℕ, zero, suc, ◌+◌, ◌<◌, ◌≤◌, min}
use mathlib.Core.Path.{◌≡◌, refl, sym, ap, subst}
use mathlib.Core.List.{◌∷◌}
use native.Mathlib.Nat.{not-suc-le-zero}
use native.Mathlib.Omega.{arith}
use Rattle.rules.specs.Graph.{in_use}
use Rattle.rules.specs.Instruct.{step}
use Rattle.rules.specs.Search.{GrowthStep, Walk, Ended, ends, Turned, stops, goes, at_state, after_grow, next, grow_by, after_finding, turn, walked, begun, search}
use Rattle.rules.specs.declared.graph.Graph.{Graph}
use Rattle.rules.specs.declared.state.State.{State}
use Rattle.rules.specs.declared.state.Cycle.{Cycle}
use Rattle.rules.specs.declared.finding.Length.TheVariants.{NoLimit, Ahead, Behind}
use Rattle.rules.specs.declared.finding.Finding.{Finding}
use Rattle.rules.specs.declared.finding.Finding.TheVariants.{GrowLength, Conflict}
use Rattle.rules.specs.Types.{Answer}
use Rattle.std.specs.Prelude.{Err, Ok}
use Rattle.rules.specs.declared.instruction.Instruction.{Instruction}
use Rattle.rules.specs.declared.instruction.Instruction.TheVariants.{FindObstacle, Grow as GrowBy}
use Rattle.promises.specs.Trail.{Link, at_zero, refused, Concludes}
use Rattle.promises.proofs.Completed.{Completed, Told, step_tells}
use Rattle.promises.proofs.Within.{Allows, ahead_allows}

module _ (g : Graph) where
  told_maximum : (s : State) (i : Instruction) (t : State) (a : Answer) → Told g s i t a → t.maximum ≡ s.maximum
  told_maximum s i t (Ok f) h = h.maximum
  told_maximum s i t (Err r) h = ap (λ (x : State). x.maximum) h.0

  -- no instruction changes the maximum
  pub step_maximum : (s : State) (i : Instruction) → (step g s i).state.maximum ≡ s.maximum
  step_maximum s i = told_maximum s i (step g s i).state (step g s i).answer (step_tells g s i)

  -- an instruction that is answered by a finding is completed
  completed : (s t : State) (i : Instruction) (f : Finding) → step g s i ≡ record { state = t; answer = Ok f } → Completed g s i t f
  completed s t i f e = subst (λ (c : Cycle). Told g s i c.state c.answer) e (step_tells g s i)

  -- ---- a step: a finding that allows its length, and a Grow by it, which the maximum is lowered by

  module _ {s t : State} {e : GrowthStep} (l : Link g s e t) where
    pub link_find : Completed g s FindObstacle e.before (GrowLength (Ahead l.limit))
    link_find = completed s e.before FindObstacle _ l.found

    pub link_grow : Completed g e.before (GrowBy e.length) l.after l.told
    link_grow = completed e.before l.after (GrowBy e.length) l.told l.grew

    pub link_allows : Allows e.length (GrowLength (Ahead l.limit))
    link_allows = ahead_allows e.length l.limit (omega (arith, l.clamped))

    pub link_maximum : t.maximum + e.length ≡ s.maximum
    link_maximum = omega (arith, ap (λ (x : State). x.maximum) l.lowered, l.clamped, link_grow.maximum, link_find.maximum)

    pub link_lower : t.maximum < s.maximum
    link_lower = omega (arith, link_maximum, l.some)

  -- ---- a turn

  pub record Stopped (c : Walk) (a : Ended) : Type 0 where
    pub leaves : a.walk.state ≡ (step g c.state FindObstacle).state
    pub answers : Concludes g (step g c.state FindObstacle).state (step g c.state FindObstacle).answer a.answer
    pub growth : a.walk.growth ≡ c.growth
    pub steps : a.walk.steps ≡ c.steps
    pub trail : a.walk.trail ≡ c.trail

  pub record Stepped (c d : Walk) : Type 0 where
    pub entry : GrowthStep
    pub link : Link g c.state entry d.state
    pub growth : d.growth ≡ c.growth + entry.length
    pub steps : d.steps ≡ c.steps + 1
    pub trail : d.trail ≡ entry ∷ c.trail

  abbrev pub Turns : Walk → Turned → Type 0
  Turns c (stops a) = Stopped c a
  Turns c (goes d) = Stepped c d

  -- m is the state after the finding, and x what that answered
  rests : (c : Walk) (m : State) (x a : Answer) → step g c.state FindObstacle ≡ record { state = m; answer = x } → Concludes g m x a
      → Stopped c (ends (at_state c m) a)
  rests c m x a y h = record { leaves = rw y; answers = rw y h; growth = refl; steps = refl; trail = refl }

  after_grow_lem : (c : Walk) (m : State) (k n : ℕ) → step g c.state FindObstacle ≡ record { state = m; answer = Ok (GrowLength (Ahead k)) }
      → suc n ≡ min k m.maximum → (t : State) (a : Answer) → step g m (GrowBy (suc n)) ≡ record { state = t; answer = a }
      → Turns c (after_grow (at_state c m) (suc n) t a)
  after_grow_lem c m k n y l t (Ok told) z = record {
    entry = record { before = m; length = suc n };
    link = record { limit = k; found = y; clamped = l; some = omega arith; after = t; told = told; grew = z; lowered = refl };
    growth = refl;
    steps = refl;
    trail = refl;
  }
  after_grow_lem c m k n y l t (Err r) z = rests c m _ _ y (rw (← l) (refused (ap (λ (x : Cycle). x.answer) z)))

  grow_turns : (c : Walk) (m : State) (k n : ℕ) → step g c.state FindObstacle ≡ record { state = m; answer = Ok (GrowLength (Ahead k)) }
      → n ≡ min k m.maximum → Turns c (grow_by g (at_state c m) n)
  unfolding grow_by
  grow_turns c m k zero y l = rests c m _ _ y (at_zero (sym l))
  grow_turns c m k (suc n) y l = after_grow_lem c m k n y l (step g m (GrowBy (suc n))).state (step g m (GrowBy (suc n))).answer refl

  find_turns : (c : Walk) (m : State) (x : Answer) → step g c.state FindObstacle ≡ record { state = m; answer = x } → Turns c (after_finding g (at_state c m) x)
  unfolding after_finding
  find_turns c m (Err r) y = rests c m _ _ y refl
  find_turns c m (Ok (Conflict a b)) y = rests c m _ _ y refl
  find_turns c m (Ok (GrowLength NoLimit)) y = rests c m _ _ y refl
  find_turns c m (Ok (GrowLength (Behind n))) y = rests c m _ _ y refl
  find_turns c m (Ok (GrowLength (Ahead n))) y = grow_turns c m n (min n m.maximum) y refl

  pub turn_turns : (c : Walk) → Turns c (turn g c)
  unfolding turn
  turn_turns c = find_turns c (step g c.state FindObstacle).state (step g c.state FindObstacle).answer refl

-- ---- one induction for every fact about searches: what each step keeps, and what a stop makes of it. Each step lowers the maximum, so the
-- turns never run out
module _ (g : Graph) (P : Walk → Type 0) (Q : Ended → Type 0)
    (stop : (c : Walk) (a : Ended) → P c → Stopped (in_use g) c a → Q a) (go : (c d : Walk) → P c → Stepped (in_use g) c d → P d) where
  next_keeps : (n : ℕ) (then : Walk → Ended) → ((d : Walk) → d.state.maximum < n → P d → Q (then d))
      → (c : Walk) → c.state.maximum ≤ n → P c → (t : Turned) → Turns (in_use g) c t → Q (next then t)
  next_keeps n then rest c l p (stops a) h = stop c a p h
  next_keeps n then rest c l p (goes d) h = rest d (omega (arith, link_lower (in_use g) h.link)) (go c d p h)

  walked_keeps : (n : ℕ) (c : Walk) → c.state.maximum < n → P c → Q (walked (in_use g) n c)
  unfolding walked
  walked_keeps zero c l p = absurd (not-suc-le-zero l)
  walked_keeps (suc n) c l p =
      next_keeps n (λ d. walked (in_use g) n d) (λ d q k. walked_keeps n d q k) c (omega arith) p (turn (in_use g) c) (turn_turns (in_use g) c)

  pub search_keeps : (s : State) → P (begun s) → Q (search g s)
  unfolding search
  search_keeps s p = walked_keeps (suc s.maximum) (begun s) (omega arith) p
