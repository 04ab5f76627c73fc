-- FindObstacle keeps what stages 1 and 2 look at. It changes only vertices that are neither defect nor virtual at grown 0, and of these only
-- node, root and speed; so fetch weights, units and stalls are the same in the cycle after it.
use Prim.Native.Nat.{ℕ}
use mathlib.Core.Path.{◌≡◌, refl, ap, fun_ext}
use mathlib.Core.Bool.{Bool, true, false}
use mathlib.Core.List.{List}
use lib.ListN.{replicate}
use Rattle.laws.specs.Choice.{◌and◌, by_test}
use Rattle.laws.specs.Table.{paint}
use Rattle.rules.specs.Graph.{left_of, right_of, condition_of, far_end}
use Rattle.rules.specs.Registers.{at, growing}
use Rattle.rules.specs.Fetch.{reduced, fetch_weight, fetched, tight, counted_tight, tight_count}
use Rattle.rules.specs.Units.{eager, is_other, permits, defect_match, virtual_match, fusion_match, holds, stalls_around, stalls, stalled_vertices}
use Rattle.rules.specs.Execute.{execute, execute_at}
use Rattle.rules.specs.Peer.{peer}
use Rattle.rules.specs.Update.{is_loose, follow, update, updated}
use Rattle.rules.specs.Instruct.{weights_fetched, vertices_stalled}
use Rattle.rules.specs.declared.graph.Graph.{Graph}
use Rattle.rules.specs.declared.graph.OffloadingType.{OffloadingType}
use Rattle.rules.specs.declared.graph.OffloadingType.TheVariants.{DefectMatch, VirtualMatch, FusionMatch}
use Rattle.rules.specs.declared.state.State.{State}
use Rattle.rules.specs.declared.instruction.Instruction.TheVariants.{FindObstacle}
use Rattle.rules.specs.declared.registers.VertexRegisters.{VertexRegisters}
use Rattle.rules.specs.Types.{PropagatingPeer}
use Rattle.std.specs.Prelude.{None, Some}
use Rattle.promises.proofs.Stages.{executed_has, updated_has}
use Rattle.promises.specs.Cycle.{after_execute, after_update}

-- z is y, or y is loose and they differ in node, root and speed only
pub record Kept (y z : VertexRegisters) : Type 0 where
  pub grown : z.grown ≡ y.grown
  pub virtual : z.is_virtual ≡ y.is_virtual
  pub defect : z.is_defect ≡ y.is_defect
  pub whole : is_loose y ≡ false → z ≡ y

kept_self : (y : VertexRegisters) → Kept y y
kept_self y = record { grown = refl; virtual = refl; defect = refl; whole = λ e. refl }

follow_kept : (y : VertexRegisters) (p : PropagatingPeer) → is_loose y ≡ true → Kept y (follow p y)
follow_kept y None e = record { grown = refl; virtual = refl; defect = refl; whole = λ q. cc }
follow_kept y (Some lead) e = record { grown = refl; virtual = refl; defect = refl; whole = λ q. cc }

pub update_kept : (p : PropagatingPeer) (y : VertexRegisters) → Kept y (update p y)
unfolding update
update_kept p y = by_test (Kept y) (is_loose y) (λ t. follow_kept y p t) (λ t. kept_self y)

-- what stage 5 writes, against what stage 3 left
pub updated_kept : (es fs xs : List ℕ) (ne nv v : ℕ) → Kept (at xs v) (at (updated es fs xs ne nv) v)
updated_kept es fs xs ne nv v =
    updated_has es fs xs ne nv (Kept (at xs v)) v (λ l. update_kept (peer es fs xs ne v) (at xs v)) (kept_self (at xs v))

module _ (g : Graph) (s : State) where
  executed_same : (v : ℕ) → at (after_execute g s FindObstacle) v ≡ at s.registers v
  unfolding execute_at execute
  executed_same v =
      executed_has g.vertices s.registers (vertices_stalled g s) FindObstacle tt g.nv (λ (y : VertexRegisters). y ≡ at s.registers v) v (λ l. refl) refl

  pub find_kept : (v : ℕ) → Kept (at s.registers v) (at (after_update g s FindObstacle) v)
  find_kept v = rw (executed_same v) at (updated_kept g.edges (weights_fetched g s) (after_execute g s FindObstacle) g.ne g.nv v)

-- ---- whatever keeps the registers so keeps stages 1 and 2. rs are the registers before, us those after

eager_kept : (y z : VertexRegisters) (d : Bool) → y.is_defect ≡ d → Kept y z → (z.is_defect and growing z.speed) ≡ (y.is_defect and growing y.speed)
unfolding ◌and◌ is_loose
eager_kept y z true e k = ap (λ (w : VertexRegisters). w.is_defect and growing w.speed) (k.whole (rw e))
eager_kept y z false e k = rw (k.defect, e)

-- a fetch weight looks at virtual marks only
module _ (es rs us : List ℕ) (k : (v : ℕ) → (at us v).is_virtual ≡ (at rs v).is_virtual) where
  pub reduced_same : (e : ℕ) → reduced es us e ≡ reduced es rs e
  unfolding reduced
  reduced_same e = rw (k (condition_of es e))

  fetch_same : (ws : List ℕ) (e : ℕ) → fetch_weight es us ws e ≡ fetch_weight es rs ws e
  unfolding fetch_weight
  fetch_same ws e = rw (reduced_same e)

  pub fetched_same : (ws : List ℕ) (ne : ℕ) → fetched es us ws ne ≡ fetched es rs ws ne
  unfolding fetched
  fetched_same ws ne = ap (λ (f : ℕ → ℕ). paint ne f (replicate 1_024 0)) (fun_ext (fetch_same ws))

module _ (es rs us fs : List ℕ) (ne : ℕ) (k : (v : ℕ) → Kept (at rs v) (at us v)) where
  tight_same : (e : ℕ) → tight es us fs e ≡ tight es rs fs e
  unfolding tight
  tight_same e = rw ((k (left_of es e)).grown, (k (right_of es e)).grown)

  counted_same : (e : ℕ) → counted_tight es us fs e ≡ counted_tight es rs fs e
  unfolding counted_tight
  counted_same e = rw (tight_same e, reduced_same es rs us (λ v. (k v).virtual) e)

  count_same : (v : ℕ) → tight_count es us fs ne v ≡ tight_count es rs fs ne v
  unfolding tight_count
  count_same v = simp counted_same

  eager_same : (v : ℕ) → eager es us fs ne v ≡ eager es rs fs ne v
  unfolding eager
  eager_same v = eager_kept (at rs v) (at us v) _ refl (k v)

  permits_same : (v e : ℕ) → permits es us fs ne v e ≡ permits es rs fs ne v e
  unfolding permits
  permits_same v e = rw (tight_same e, (k (far_end es v e)).defect, count_same (far_end es v e))

  holds_same : (o : OffloadingType) → holds es us fs ne o ≡ holds es rs fs ne o
  unfolding holds defect_match virtual_match fusion_match is_other
  holds_same (DefectMatch e) =
      rw (tight_same e.0, eager_same (left_of es e.0), eager_same (right_of es e.0), count_same (left_of es e.0), count_same (right_of es e.0))
  holds_same (VirtualMatch e w) = rw (tight_same e.0, (k w.0).virtual, eager_same (far_end es w.0 e.0)) (simp permits_same)
  holds_same (FusionMatch e w) =
      rw (tight_same e.0, (k w.0).virtual, eager_same (far_end es w.0 e.0), count_same (far_end es w.0 e.0))

  stalls_same : (o : OffloadingType) (t : List Bool) → stalls es us fs ne o t ≡ stalls es rs fs ne o t
  unfolding stalls stalls_around is_other
  stalls_same (DefectMatch e) t = refl
  stalls_same (VirtualMatch e w) t = simp tight_same
  stalls_same (FusionMatch e w) t = refl

  pub vertices_same : (units : List ℕ) (nu : ℕ) → stalled_vertices es us fs ne units nu ≡ stalled_vertices es rs fs ne units nu
  unfolding stalled_vertices
  vertices_same units nu = simp (holds_same, stalls_same)
