-- The search's loop, over variables. What is told of the search from here on is what is told of all of it; each way out tells it, and a step
-- keeps it.
use Rattle.std.specs.Prelude.{ℕ, zero, suc, ◌+◌, ◌≤◌, min, ◌≡◌, [], Result, Ok, Err}
use Rattle.std.proofs.Common.{refl, sym, ap, subst, ◌∙◌, zero-add, arith}
use Rattle.rules.specs.Instruct.{step}
use Rattle.rules.specs.Search.{Walk, Ended, begun, next, grow_by, after_grow, after_finding, turn, walked, told}
use Rattle.rules.specs.declared.graph.Graph.{Graph}
use Rattle.rules.specs.declared.state.State.{State}
use Rattle.rules.specs.declared.state.Searched.{Searched}
use Rattle.rules.specs.declared.finding.Length.TheVariants.{NoLimit, Ahead, Behind}
use Rattle.rules.specs.declared.finding.Finding.{Finding}
use Rattle.rules.specs.declared.finding.Finding.TheVariants.{GrowLength, Conflict}
use Rattle.rules.specs.Types.{Answer}
use Rattle.rules.specs.declared.finding.Sought.TheVariants as S
use Rattle.rules.specs.declared.instruction.Instruction.TheVariants.{FindObstacle, Grow}
use Rattle.rules.specs.declared.refusal.Refusal.{Refusal}
use Rattle.comb_cycle.specs.Cycled.{maximum_stays}
use Rattle.comb_search.specs.Seek.{walk, seek, seek_turn, seek_grown}
use Rattle.comb_search.specs.Turn.{Took, took, once}
use Rattle.comb_search.specs.declared.turn.Turn.{Turn}
use Rattle.comb_search.specs.declared.turn.Turn.TheVariants.{Found, Grew}

-- ---- a turn of the search is the turn from a walk that just begins, with the growth and steps behind it

module _ (g : Graph) (n growth steps : ℕ) where
  -- what is told of the search after a turn
  abbrev seek_after : State → Result Turn Refusal → Searched
  seek_after s (Ok (Found f)) = record { state = s; answer = S.Found f (record { growth = growth; steps = steps }) }
  seek_after s (Ok (Grew k m)) = seek g n s (growth + k) (steps + 1)
  seek_after s (Err r) = record { state = s; answer = S.Stopped r (record { growth = growth; steps = steps }) }

  abbrev after : Took → Searched
  after t = seek_after t.state t.turn

  abbrev rest : Walk → Ended
  rest w = walked g n w

  grown_as : (s u : State) (k : ℕ) (a : Answer) → told (next rest (after_grow (walk s growth steps []) k u a)) ≡ after (took (after_grow (begun s) k u a))
  grown_as s u k (Ok f) = rw zero-add (seek_grown g n s u growth steps k)
  grown_as s u k (Err r) = refl

  grows_as : (s : State) (k : ℕ) → told (next rest (grow_by g (walk s growth steps []) k)) ≡ after (took (grow_by g (begun s) k))
  unfolding grow_by
  grows_as s zero = refl
  grows_as s (suc k) = let d = step g s (Grow (suc k)) in grown_as s d.state (suc k) d.answer

  answers_as : (s : State) (a : Answer) → told (next rest (after_finding g (walk s growth steps []) a)) ≡ after (took (after_finding g (begun s) a))
  unfolding after_finding
  answers_as s (Err r) = refl
  answers_as s (Ok (Conflict a b)) = refl
  answers_as s (Ok (GrowLength NoLimit)) = refl
  answers_as s (Ok (GrowLength (Behind k))) = refl
  answers_as s (Ok (GrowLength (Ahead k))) = grows_as s (min k s.maximum)

  seek_is : (s : State) → seek g (suc n) s growth steps ≡ after (took (turn g (begun s)))
  unfolding turn
  seek_is s = let c = step g s FindObstacle in seek_turn g n s growth steps ∙ answers_as c.state c.answer

-- ---- a length grown by is some, and the maximum falls by it

abbrev Falls : ℕ → ℕ → Result Turn Refusal → Type 0
Falls m left (Ok (Found f)) = Unit {0}
Falls m left (Ok (Grew k j)) = (1 ≤ k) × (left + k ≡ m) × (j ≡ 0)
Falls m left (Err r) = Unit {0}

module _ (g : Graph) (m : ℕ) where
  abbrev FallsTo : Took → Type 0
  FallsTo t = Falls m t.state.maximum t.turn

  grown_falls : (s u : State) (k : ℕ) (a : Answer) → 1 ≤ k → k ≤ m → u.maximum ≡ m → FallsTo (took (after_grow (begun s) k u a))
  grown_falls s u k (Ok f) o w e = (omega arith, omega arith, refl)
  grown_falls s u k (Err r) o w e = tt

  grows_falls : (s : State) (k : ℕ) → s.maximum ≡ m → k ≤ m → FallsTo (took (grow_by g (begun s) k))
  unfolding grow_by
  grows_falls s zero e w = tt
  grows_falls s (suc k) e w = let d = step g s (Grow (suc k)) in grown_falls s d.state (suc k) d.answer (omega arith) w (maximum_stays g s (Grow (suc k)) ∙ e)

  answer_falls : (s : State) (a : Answer) → s.maximum ≡ m → FallsTo (took (after_finding g (begun s) a))
  unfolding after_finding
  answer_falls s (Err r) e = tt
  answer_falls s (Ok (Conflict a b)) e = tt
  answer_falls s (Ok (GrowLength NoLimit)) e = tt
  answer_falls s (Ok (GrowLength (Behind k))) e = tt
  answer_falls s (Ok (GrowLength (Ahead k))) e = grows_falls s (min k s.maximum) e (omega arith)

module _ (g : Graph) (s t : State) (r : Result Turn Refusal) (e : record { state = t; turn = r } ≡ took (turn g (begun s))) where
  falls : Falls s.maximum t.maximum r
  unfolding turn
  falls =
      let c = step g s FindObstacle in
      subst (FallsTo g s.maximum) (sym e) (answer_falls g s.maximum c.state c.answer (maximum_stays g s FindObstacle))

  module _ (n k : ℕ) (q : r ≡ Ok (Grew n k)) where
    pub grew_some : 1 ≤ n
    grew_some = (rw q at falls).0

    pub grew_most : t.maximum + n ≡ s.maximum
    grew_most = (rw q at falls).1

-- ---- the loop

module _ (g : Graph) (all : Searched) where
  pub record Seeking (s : State) (growth steps : ℕ) : Type 0 where
    pub fuel : ℕ
    pub enough : s.maximum ≤ fuel
    pub so : seek g (suc fuel) s growth steps ≡ all

  fuelled : (n : ℕ) (s : State) {growth steps : ℕ} {m : ℕ} → s.maximum + 1 ≤ m → m ≤ n → seek g n s growth steps ≡ all → Seeking s growth steps
  fuelled zero s l w e = let z : ⊥ = omega arith in absurd z
  fuelled (suc n) s l w e = record { fuel = n; enough = omega arith; so = e }

  module _ (s t : State) (growth steps : ℕ) (p : Seeking s growth steps) (r : Result Turn Refusal)
      (e : record { state = t; turn = once r } ≡ took (turn g (begun s))) where
    told_so : seek_after g p.fuel growth steps t (once r) ≡ all
    told_so = ap (after g p.fuel growth steps) e ∙ sym (seek_is g p.fuel growth steps s) ∙ p.so

    pub ends_found : (f : Finding) → r ≡ Ok (Found f) → record { state = t; answer = S.Found f (record { growth = growth; steps = steps }) } ≡ all
    ends_found f q = rw q at told_so

    pub ends_stopped : (n : Refusal) → r ≡ Err n → record { state = t; answer = S.Stopped n (record { growth = growth; steps = steps }) } ≡ all
    ends_stopped n q = rw q at told_so

    -- the step of a turn that grew, before those that repeat it
    pub stepped : (n k : ℕ) → r ≡ Ok (Grew n k) → Seeking t (growth + n) (steps + 1)
    stepped n k q =
        let o : once r ≡ Ok (Grew n 0) = ap once q in
        fuelled p.fuel t (omega (arith, grew_some g s t (once r) e n 0 o, grew_most g s t (once r) e n 0 o)) p.enough (rw q at told_so)

pub begins : (g : Graph) (s : State) → Seeking g (told (walked g (suc s.maximum) (begun s))) s 0 0
unfolding seek
begins g s = record { fuel = s.maximum; enough = omega arith; so = refl }
