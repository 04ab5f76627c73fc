-- The search as the code has it: it keeps no trail, and what is told of a search does not need one.
use Prim.Native.Nat.{ℕ, zero, suc, ◌+◌, ◌-◌, min}
use Rattle.std.specs.Prelude.{◌≡◌, List, [], Ok, Err}
use Rattle.std.proofs.Math.Path.{refl}
use Rattle.rules.specs.Instruct.{step}
use Rattle.rules.specs.State.{with_maximum}
use Rattle.rules.specs.Search.{GrowthStep, Walk, Turned, grew, after_grow, next, grow_by, after_finding, turn, walked, told}
use Rattle.rules.specs.declared.graph.Graph.{Graph}
use Rattle.rules.specs.declared.state.State.{State}
use Rattle.rules.specs.declared.state.Searched.{Searched}
use Rattle.rules.specs.declared.finding.Length.TheVariants.{NoLimit, Ahead, Behind}
use Rattle.rules.specs.declared.finding.Finding.TheVariants.{GrowLength, Conflict}
use Rattle.rules.specs.Types.{Answer}
use Rattle.rules.specs.declared.instruction.Instruction.TheVariants.{FindObstacle, Grow}

abbrev pub walk : State → ℕ → ℕ → List GrowthStep → Walk
walk s growth steps trail = record { state = s; growth = growth; steps = steps; trail = trail }

module _ (g : Graph) where
  -- what is told of a search at this state, with so much growth in so many steps behind it, that makes at most n turns more
  unfoldable pub seek : ℕ → State → ℕ → ℕ → Searched
  seek n s growth steps = told (walked g n (walk s growth steps []))

  -- ---- the trail changes nothing of what is told

  module _ (n : ℕ)
      (same : (s : State) (growth steps : ℕ) (ts us : List GrowthStep) → told (walked g n (walk s growth steps ts)) ≡ told (walked g n (walk s growth steps us))) where
    abbrev goes_on_lem : Turned → Searched
    goes_on_lem t = told (next (λ w. walked g n w) t)

    after_grow_lem : (c s : State) (growth steps k : ℕ) (ts us : List GrowthStep) (a : Answer)
        → goes_on_lem (after_grow (walk c growth steps ts) k s a) ≡ goes_on_lem (after_grow (walk c growth steps us) k s a)
    after_grow_lem c s growth steps k ts us (Err r) = refl
    after_grow_lem c s growth steps k ts us (Ok f) = same _ _ _ _ _

    grow_by_lem : (s : State) (growth steps : ℕ) (ts us : List GrowthStep) (k : ℕ) → goes_on_lem (grow_by g (walk s growth steps ts) k) ≡ goes_on_lem (grow_by g (walk s growth steps us) k)
    unfolding grow_by
    grow_by_lem s growth steps ts us zero = refl
    grow_by_lem s growth steps ts us (suc k) = after_grow_lem s (step g s (Grow (suc k))).state growth steps (suc k) ts us (step g s (Grow (suc k))).answer

    after_finding_lem : (s : State) (growth steps : ℕ) (ts us : List GrowthStep) (a : Answer)
        → goes_on_lem (after_finding g (walk s growth steps ts) a) ≡ goes_on_lem (after_finding g (walk s growth steps us) a)
    unfolding after_finding
    after_finding_lem s growth steps ts us (Err r) = refl
    after_finding_lem s growth steps ts us (Ok (Conflict a b)) = refl
    after_finding_lem s growth steps ts us (Ok (GrowLength NoLimit)) = refl
    after_finding_lem s growth steps ts us (Ok (GrowLength (Behind k))) = refl
    after_finding_lem s growth steps ts us (Ok (GrowLength (Ahead k))) = grow_by_lem s growth steps ts us (min k s.maximum)

  trail_free : (n : ℕ) (s : State) (growth steps : ℕ) (ts us : List GrowthStep) → told (walked g n (walk s growth steps ts)) ≡ told (walked g n (walk s growth steps us))
  unfolding walked turn
  trail_free zero s growth steps ts us = refl
  trail_free (suc n) s growth steps ts us =
      after_finding_lem n (trail_free n) (step g s FindObstacle).state growth steps ts us (step g s FindObstacle).answer

  -- ---- one turn

  pub seek_turn : (n : ℕ) (s : State) (growth steps : ℕ)
      → seek (suc n) s growth steps ≡ told (next (λ w. walked g n w) (after_finding g (walk (step g s FindObstacle).state growth steps []) (step g s FindObstacle).answer))
  unfolding seek walked turn
  seek_turn n s growth steps = refl

  pub seek_grown : (n : ℕ) (s t : State) (growth steps k : ℕ)
      → told (walked g n (grew (walk s growth steps []) k t)) ≡ seek n (with_maximum (t.maximum - k) t) (growth + k) (steps + 1)
  unfolding seek
  seek_grown n s t growth steps k = trail_free n _ _ _ _ _
