-- What the tables of stages 3, 5 and 6 hold at a vertex. Each stage keeps registers that fit their word, so a table reads back what it was
-- filled with.
use Prim.Native.Nat.{ℕ, ◌+◌, ◌<◌, ◌≤◌}
use mathlib.Core.Path.{◌≡◌, sym, subst}
use mathlib.Core.Bool.{Bool, true, false}
use mathlib.Core.List.{List}
use native.Mathlib.Omega.{arith}
use borrow.Author.Tests.{ltb-false, leb-true}
use lib.Dec.{ltb}
use lib.ListN.{length, get_or}
use Rattle.laws.specs.Choice.{pick, by_test, and_left, and_right}
use Rattle.laws.specs.Table.{paint, get_or_painted, paint_at, length_paint}
use Rattle.rules.specs.Graph.{layer_of}
use Rattle.rules.specs.Registers.{view, keep, at, fresh}
use Rattle.rules.specs.Execute.{execute, moved, done_or, execute_at, executed, still}
use Rattle.rules.specs.Peer.{peer, lead_by, served_by}
use Rattle.rules.specs.Update.{update, follow, updated}
use Rattle.rules.specs.Shadow.{shadow, shadows, yield, yielded}
use Rattle.rules.specs.Execute.{waits}
use Rattle.rules.specs.Words.{in_bounds}
use Rattle.rules.specs.Instruct.{barred}
use Rattle.rules.specs.declared.graph.Graph.{Graph}
use Rattle.rules.specs.declared.instruction.CompactGrowState.{CompactGrowState}
use Rattle.rules.specs.declared.instruction.CompactGrowState.TheVariants.{Stay, Grow, Shrink}
use Rattle.rules.specs.declared.instruction.Instruction.{Instruction}
use Rattle.rules.specs.declared.instruction.Instruction.TheVariants.{SetSpeed, SetBlossom, AddDefectVertex, FindObstacle, Grow as GrowBy, LoadDefectsExternal}
use Rattle.rules.specs.declared.refusal.Refusal.{Refusal}
use Rattle.rules.specs.declared.registers.VertexRegisters.{VertexRegisters}
use Rattle.rules.specs.Types.{Executed, PropagatingPeer}
use Rattle.std.specs.Prelude.{None, Some}
use mathlib.Core.Option.{Option, none, some}
use Rattle.laws.specs.First.{first}
use Rattle.rules.proofs.Round.{InRange, at_in_range, round}

-- ---- a table of registers that fit
module _ (f : ℕ → VertexRegisters) (fits : (v : ℕ) → InRange (f v)) (nv : ℕ) (rs : List ℕ) where
  abbrev filled : List ℕ
  filled = paint nv (λ v. keep (f v)) rs

  -- at any index: the new registers, or those that stood there
  pub filled_has : (P : VertexRegisters → Type 0) (v : ℕ) → (v < nv → P (f v)) → P (at rs v) → P (at filled v)
  unfolding at
  filled_has P v new old =
      paint_at (λ v. keep (f v)) (λ (w : ℕ). P (view w)) 0 nv rs v (λ l. subst P (sym (round (f v) (fits v))) (new l)) old

  pub filled_at : (v : ℕ) → v < nv → v < length rs → at filled v ≡ f v
  unfolding at
  filled_at v l h = rw (get_or_painted (λ v. keep (f v)) nv rs v 0 l h) (round (f v) (fits v))

-- ---- a fresh vertex

pub fresh_fits : (b : Bool) → InRange (fresh b)
unfolding fresh
fresh_fits true = record { grown = omega arith; node = omega arith; root = omega arith }
fresh_fits false = record { grown = omega arith; node = omega arith; root = omega arith }

-- ---- stage 3

-- the nodes that an instruction carries fit a register
abbrev pub Bounded : Instruction → Type 0
Bounded (SetSpeed n s) = n.0 ≤ 32_767
Bounded (SetBlossom n b) = (n.0 ≤ 32_767) × (b.0 ≤ 32_767)
Bounded (AddDefectVertex v n) = n.0 ≤ 32_767
Bounded FindObstacle = Unit {0}
Bounded (GrowBy l) = Unit {0}
Bounded (LoadDefectsExternal t) = Unit {0}

in_bounds_lem : (i : Instruction) → in_bounds i ≡ true → Bounded i
unfolding in_bounds
in_bounds_lem (SetSpeed n s) h = leb-true n.0 32_767 h
in_bounds_lem (SetBlossom n b) h = (leb-true n.0 32_767 (and_left _ _ h), leb-true b.0 32_767 (and_right _ _ h))
in_bounds_lem (AddDefectVertex v n) h = leb-true n.0 32_767 (and_right _ _ h)
in_bounds_lem FindObstacle h = tt
in_bounds_lem (GrowBy l) h = tt
in_bounds_lem (LoadDefectsExternal t) h = tt

pub some_not_none : {A : Type 0} (x : A) → some x ≡ none → ⊥
some_not_none x e = let z : ◌≡◌ {A = ℕ} 0 1 = cc in omega arith

-- what is not barred is in bounds
pub bounded : (g : Graph) (i : Instruction) → barred g i ≡ none → Bounded i
unfolding barred
bounded g i = by_test (λ (o : Option Refusal). o ≡ none → Bounded i) (in_bounds i) (λ t e. in_bounds_lem i t) (λ t e. absurd (some_not_none _ e))

moved_fits : (s : CompactGrowState) (l : ℕ) (x : VertexRegisters) → InRange x → InRange (done_or x (moved s l x))
unfolding moved
moved_fits Stay l x h = h
moved_fits Grow l x h =
    by_test (λ (e : Executed). InRange (done_or x e)) (ltb 67_108_863 (x.grown + l)) (λ t. h)
    (λ t. record { grown = omega (arith, ltb-false 67_108_863 (x.grown + l) t); node = h.node; root = h.root })
moved_fits Shrink l x h =
    by_test (λ (e : Executed). InRange (done_or x e)) (ltb x.grown l) (λ t. h)
    (λ t. record { grown = omega (arith, h.grown); node = h.node; root = h.root })

pub execute_fits : (i : Instruction) → Bounded i → (v layer : ℕ) (stays : Bool) (x : VertexRegisters) → InRange x → InRange (done_or x (execute i v layer stays x))
unfolding execute
execute_fits (SetSpeed n s) b v layer stays x h = by_test InRange _ (λ t. record { grown = h.grown; node = h.node; root = h.root }) (λ t. h)
execute_fits (SetBlossom n c) b v layer stays x h = by_test InRange _ (λ t. record { grown = h.grown; node = omega arith; root = h.root }) (λ t. h)
execute_fits (AddDefectVertex w n) b v layer stays x h = by_test InRange _ (λ t. record { grown = h.grown; node = omega arith; root = omega arith }) (λ t. h)
execute_fits FindObstacle b v layer stays x h = h
execute_fits (GrowBy l) b v layer stays x h = by_test (λ (e : Executed). InRange (done_or x e)) stays (λ t. h) (λ t. moved_fits x.speed l x h)
execute_fits (LoadDefectsExternal k) b v layer stays x h = by_test InRange _ (λ t. record { grown = h.grown; node = h.node; root = h.root }) (λ t. h)

module _ (vs rs : List ℕ) (stalled : List Bool) (i : Instruction) (b : Bounded i) (nv : ℕ) where
  abbrev pub done_at : ℕ → VertexRegisters
  done_at v = done_or (at rs v) (execute_at vs rs stalled i v)

  done_fits : (v : ℕ) → InRange (done_at v)
  unfolding execute_at
  done_fits v = execute_fits i b v (layer_of vs v) (still vs rs stalled i v) (at rs v) (at_in_range rs v)

  pub executed_has : (P : VertexRegisters → Type 0) (v : ℕ) → (v < nv → P (done_at v)) → P (at rs v) → P (at (executed vs rs stalled i nv) v)
  unfolding executed
  executed_has P v new old = filled_has done_at done_fits nv rs P v new old

  pub executed_at : (v : ℕ) → v < nv → v < length rs → at (executed vs rs stalled i nv) v ≡ done_at v
  unfolding executed
  executed_at v l h = filled_at done_at done_fits nv rs v l h

  pub executed_length : length (executed vs rs stalled i nv) ≡ length rs
  unfolding executed
  executed_length = length_paint (λ v. keep (done_at v)) nv rs

-- ---- stages 4 and 5

-- a peer's node and root fit a register
abbrev pub PeerFits : PropagatingPeer → Type 0
PeerFits None = Unit {0}
PeerFits (Some lead) = (lead.node.0 < 65_536) × (lead.root.0 < 65_536)

lead_fits : (xs : List ℕ) (p : Option ℕ) → PeerFits (lead_by xs p)
lead_fits xs none = tt
lead_fits xs (some p) = ((at_in_range xs p).node, (at_in_range xs p).root)

pub follow_fits : (p : PropagatingPeer) → PeerFits p → (x : VertexRegisters) → InRange x → InRange (follow p x)
follow_fits None q x h = record { grown = h.grown; node = omega arith; root = omega arith }
follow_fits (Some lead) q x h = record { grown = h.grown; node = q.0; root = q.1 }

module _ (es fs xs : List ℕ) (ne : ℕ) where
  pub peer_fits : (v : ℕ) → PeerFits (peer es fs xs ne v)
  unfolding peer
  peer_fits v = by_test PeerFits _ (λ t. lead_fits xs (first ne (served_by es fs xs ne v))) (λ t. tt)

  abbrev pub update_at : ℕ → VertexRegisters
  update_at v = update (peer es fs xs ne v) (at xs v)

  update_fits : (v : ℕ) → InRange (update_at v)
  unfolding update
  update_fits v = by_test InRange _ (λ t. follow_fits (peer es fs xs ne v) (peer_fits v) (at xs v) (at_in_range xs v)) (λ t. at_in_range xs v)

  module _ (nv : ℕ) where
    pub updated_has : (P : VertexRegisters → Type 0) (v : ℕ) → (v < nv → P (update_at v)) → P (at xs v) → P (at (updated es fs xs ne nv) v)
    unfolding updated
    updated_has P v new old = filled_has update_at update_fits nv xs P v new old

    pub updated_at : (v : ℕ) → v < nv → v < length xs → at (updated es fs xs ne nv) v ≡ update_at v
    unfolding updated
    updated_at v l h = filled_at update_at update_fits nv xs v l h

    pub updated_length : length (updated es fs xs ne nv) ≡ length xs
    unfolding updated
    updated_length = length_paint (λ v. keep (update_at v)) nv xs

-- ---- stage 6

yield_fits : (p : PropagatingPeer) → PeerFits p → (x : VertexRegisters) → InRange x → InRange (yield p x)
yield_fits None q x h = h
yield_fits (Some lead) q x h = record { grown = h.grown; node = q.0; root = q.1 }

yielded_fits : (p : PropagatingPeer) → PeerFits p → (x : VertexRegisters) → InRange x → InRange (yielded p x)
unfolding yielded
yielded_fits p q x h = by_test InRange _ (λ t. yield_fits p q x h) (λ t. h)

shadow_fits : (p : PropagatingPeer) → PeerFits p → (waiting stalled : Bool) (x : VertexRegisters) → InRange x → InRange (shadow p waiting stalled x)
unfolding shadow pick
shadow_fits p q true true x h = record { grown = h.grown; node = omega arith; root = omega arith }
shadow_fits p q true false x h = record { grown = h.grown; node = omega arith; root = omega arith }
shadow_fits p q false true x h = let y = yielded_fits p q x h in record { grown = y.grown; node = y.node; root = y.root }
shadow_fits p q false false x h = yielded_fits p q x h

module _ (vs es fs xs ys : List ℕ) (stalled : List Bool) (ne nv : ℕ) where
  abbrev pub shadow_at : ℕ → VertexRegisters
  shadow_at v = shadow (peer es fs xs ne v) (waits vs v (at ys v)) (get_or stalled v false) (at ys v)

  shadow_at_fits : (v : ℕ) → InRange (shadow_at v)
  shadow_at_fits v = shadow_fits (peer es fs xs ne v) (peer_fits es fs xs ne v) _ _ (at ys v) (at_in_range ys v)

  pub shadows_has : (P : VertexRegisters → Type 0) (v : ℕ) → (v < nv → P (shadow_at v)) → P (at ys v) → P (at (shadows vs es fs xs ys stalled ne nv) v)
  unfolding shadows
  shadows_has P v new old = filled_has shadow_at shadow_at_fits nv ys P v new old

  pub shadows_at : (v : ℕ) → v < nv → v < length ys → at (shadows vs es fs xs ys stalled ne nv) v ≡ shadow_at v
  unfolding shadows
  shadows_at v l h = filled_at shadow_at shadow_at_fits nv ys v l h
