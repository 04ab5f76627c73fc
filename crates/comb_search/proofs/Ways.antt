-- A turn's ways out, over variables: a finding leaves t and is answered a, a Grow after it leaves u and is answered b.
use Rattle.std.specs.Prelude.{ℕ, zero, suc, ◌-◌, ◌≤◌, min, ◌≡◌, Result, Ok, Err}
use Rattle.std.proofs.Common.{refl, sym, ap, ◌∙◌, zero-add, arith}
use lib.Dec.{eqb-suc-zero}
use Rattle.laws.specs.Choice.{pick}
use Rattle.rules.specs.State.{with_maximum}
use Rattle.rules.specs.Instruct.{step}
use Rattle.rules.specs.Search.{begun, grow_by, after_grow, after_finding, turn}
use Rattle.rules.specs.declared.graph.Graph.{Graph}
use Rattle.rules.specs.declared.state.Cycle.{Cycle}
use Rattle.rules.specs.declared.state.State.{State}
use Rattle.rules.specs.declared.finding.Length.TheVariants.{NoLimit, Ahead, Behind}
use Rattle.rules.specs.declared.finding.Finding.{Finding}
use Rattle.rules.specs.declared.finding.Finding.TheVariants.{GrowLength, Conflict}
use Rattle.rules.specs.Types.{Answer}
use Rattle.rules.specs.declared.instruction.Instruction.TheVariants.{FindObstacle, Grow}
use Rattle.rules.specs.declared.refusal.Refusal.{Refusal}
use Rattle.comb_cycle.specs.Cycled.{refused_keeps, maximum_stays}
use Rattle.comb_search.specs.Turn.{Took, took, to_grow, next_of}
use Rattle.comb_search.specs.declared.turn.Turn.{Turn}
use Rattle.comb_search.specs.declared.turn.Turn.TheVariants.{Found, Grew}

-- what a finding leads to leads to this, from the state that the finding left
module _ (g : Graph) (t : State) where
  abbrev after_length : ℕ → State → Answer → Took
  after_length k u (Ok f) = record { state = with_maximum (u.maximum - k) u; turn = Ok (Grew k 0) }
  after_length k u (Err r) = record { state = t; turn = Err r }

  abbrev after_next : Result Turn Refusal → Took
  after_next (Ok (Found f)) = record { state = t; turn = Ok (Found f) }
  after_next (Ok (Grew k m)) = let d = step g t (Grow k) in after_length k d.state d.answer
  after_next (Err r) = record { state = t; turn = Err r }

  grown_lem : (k : ℕ) (u : State) (a : Answer) → took (after_grow (begun t) k u a) ≡ after_length k u a
  grown_lem k u (Ok f) = rw zero-add
  grown_lem k u (Err r) = refl

  length_lem : (k : ℕ) → took (grow_by g (begun t) k) ≡ after_next (Ok (to_grow k))
  unfolding grow_by to_grow pick
  length_lem zero = refl
  length_lem (suc k) = rw eqb-suc-zero (grown_lem (suc k) (step g t (Grow (suc k))).state (step g t (Grow (suc k))).answer)

  finding_lem : (f : Finding) → took (after_finding g (begun t) (Ok f)) ≡ after_next (next_of f t.maximum)
  unfolding after_finding
  finding_lem (Conflict a b) = refl
  finding_lem (GrowLength NoLimit) = refl
  finding_lem (GrowLength (Behind n)) = refl
  finding_lem (GrowLength (Ahead n)) = length_lem (min n t.maximum)

-- a length to grow by is some of what is left, and nothing repeats it yet
abbrev Fits : ℕ → Result Turn Refusal → Type 0
Fits left (Ok (Found f)) = Unit {0}
Fits left (Ok (Grew k m)) = (1 ≤ k) × (k ≤ left) × (m ≡ 0)
Fits left (Err r) = Unit {0}

length_fits : (left k : ℕ) → k ≤ left → Fits left (Ok (to_grow k))
unfolding to_grow pick
length_fits left zero l = tt
length_fits left (suc k) l = rw eqb-suc-zero (omega arith, l, refl)

pub finding_fits : (f : Finding) (left : ℕ) → Fits left (next_of f left)
finding_fits (Conflict a b) left = tt
finding_fits (GrowLength NoLimit) left = tt
finding_fits (GrowLength (Behind n)) left = tt
finding_fits (GrowLength (Ahead n)) left = length_fits left (min n left) (omega arith)

module _ (g : Graph) (s t : State) (a : Answer) (h : record { state = t; answer = a } ≡ step g s FindObstacle) where
  is : took (after_finding g (begun t) a) ≡ took (turn g (begun s))
  unfolding turn
  is = ap (λ (c : Cycle). took (after_finding g (begun c.state) c.answer)) h

  pub turn_refused : (r : Refusal) → a ≡ Err r → {x : Result Turn Refusal} → x ≡ Err r → record { state = t; turn = x } ≡ took (turn g (begun s))
  unfolding after_finding
  turn_refused r e p = rw p (rw e at is)

  module _ (f : Finding) (e : a ≡ Ok f) (n : Result Turn Refusal) (q : n ≡ next_of f t.maximum) where
    on : after_next g t n ≡ took (turn g (begun s))
    on = rw q (sym (finding_lem g t f) ∙ ap (λ (b : Answer). took (after_finding g (begun t) b)) (sym e) ∙ is)

    pub turn_negative : (r : Refusal) → n ≡ Err r → {x : Result Turn Refusal} → x ≡ Err r → record { state = t; turn = x } ≡ took (turn g (begun s))
    turn_negative r p y = rw y (rw p at on)

    pub turn_ends : (x : Turn) → n ≡ Ok x → ((k m : ℕ) → x ≡ Grew k m → ⊥) → record { state = t; turn = Ok x } ≡ took (turn g (begun s))
    turn_ends (Found f) p z = rw p at on
    turn_ends (Grew k m) p z = absurd (z k m refl)

    module _ (x : Turn) (p : n ≡ Ok x) (k m : ℕ) (z : x ≡ Grew k m) (u : State) (b : Answer) (d : record { state = u; answer = b } ≡ step g t (Grow k)) where
      grown : after_length g t k u b ≡ took (turn g (begun s))
      grown = ap (λ (c : Cycle). after_length g t k c.state c.answer) d ∙ rw z at (rw p at on)

      pub turn_cut : (r : Refusal) → b ≡ Err r → {y : Result Turn Refusal} → y ≡ Err r → record { state = u; turn = y } ≡ took (turn g (begun s))
      turn_cut r e v = let k : u ≡ t = ap (λ (c : Cycle). c.state) d ∙ refused_keeps g t (Grow k) r (ap (λ (c : Cycle). c.answer) (sym d) ∙ e) in rw (v, k) (rw e at grown)

      fits : Fits t.maximum (Ok (Grew k m))
      fits = rw z at (rw p at (rw (← q) at (finding_fits f t.maximum)))

      pub turn_lowers : k ≤ u.maximum
      turn_lowers = omega (arith, fits.1, ap (λ (c : Cycle). c.state.maximum) d, maximum_stays g t (Grow k))

      pub turn_grows : (h : Finding) → b ≡ Ok h → record { state = with_maximum (u.maximum - k) u; turn = Ok (Grew k m) } ≡ took (turn g (begun s))
      turn_grows h e = let y : m ≡ 0 = fits.2 in rw y (rw e at grown)
