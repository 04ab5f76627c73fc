-- Stage 3: execute. rs holds the registers before the instruction, vs the vertices, stalled what stage 2 stalled.
use Rattle.std.specs.Prelude.{ℕ, ◌+◌, ◌-◌, Bool, true, false, List, ltb, eqb, get_or}
use Rattle.std.proofs.Math.Option.{Option, none, some}
use Rattle.laws.specs.Choice.{◌and◌, ◌or◌, pick}
use Rattle.laws.specs.First.{first}
use Rattle.laws.specs.Table.{paint}
use Rattle.rules.specs.Graph.{layer_of, has_layer}
use Rattle.rules.specs.Registers.{at, keep, same_node}
use Rattle.rules.specs.declared.index.NodeIndex.{NodeIndex}
use Rattle.rules.specs.declared.instruction.CompactGrowState.{CompactGrowState}
use Rattle.rules.specs.declared.instruction.CompactGrowState.TheVariants.{Stay, Grow, Shrink}
use Rattle.rules.specs.declared.instruction.Instruction.{Instruction}
use Rattle.rules.specs.declared.instruction.Instruction.TheVariants.{SetSpeed, SetBlossom, AddDefectVertex, FindObstacle, Grow as GrowBy, LoadDefectsExternal}
use Rattle.rules.specs.declared.refusal.Refusal.{Refusal}
use Rattle.rules.specs.declared.refusal.Refusal.TheVariants as R
use Rattle.rules.specs.declared.registers.VertexRegisters.{VertexRegisters}
use Rattle.rules.specs.Types.{Executed}
use Rattle.std.specs.Prelude.{Err, Ok}
use Rattle.rules.specs.declared.registers.MoveError.{MoveError}
use Rattle.rules.specs.declared.registers.MoveError.TheVariants.{BelowZero, AboveBound}

-- ---- one register changed, or a few

abbrev pub with_speed : CompactGrowState → VertexRegisters → VertexRegisters
with_speed s x = record { speed = s; grown = x.grown; is_virtual = x.is_virtual; is_defect = x.is_defect; node = x.node; root = x.root }

abbrev pub with_grown : ℕ → VertexRegisters → VertexRegisters
with_grown n x = record { speed = x.speed; grown = n; is_virtual = x.is_virtual; is_defect = x.is_defect; node = x.node; root = x.root }

abbrev pub not_virtual : VertexRegisters → VertexRegisters
not_virtual x = record { speed = x.speed; grown = x.grown; is_virtual = false; is_defect = x.is_defect; node = x.node; root = x.root }

abbrev pub as_defect : NodeIndex → VertexRegisters → VertexRegisters
as_defect n x = record { speed = Grow; grown = x.grown; is_virtual = x.is_virtual; is_defect = true; node = n; root = n }

-- speed, node and root at once
abbrev pub led : CompactGrowState → NodeIndex → NodeIndex → VertexRegisters → VertexRegisters
led s n t x = record { speed = s; grown = x.grown; is_virtual = x.is_virtual; is_defect = x.is_defect; node = n; root = t }

-- ---- one vertex

-- "grown plus speed times length"; 14 below 0, 15 "above 67,108,863"
unfoldable pub moved : CompactGrowState → ℕ → VertexRegisters → Executed
moved Stay l x = Ok x
moved Grow l x = pick (ltb 67_108_863 (x.grown + l)) (Err AboveBound) (Ok (with_grown (x.grown + l) x))
moved Shrink l x = pick (ltb x.grown l) (Err BelowZero) (Ok (with_grown (x.grown - l) x))

-- layer is the vertex's own; still where it is stalled, or virtual with a layer
unfoldable pub execute : Instruction → ℕ → ℕ → Bool → VertexRegisters → Executed
-- "SetSpeed: vertices with that node"
execute (SetSpeed n s) v layer still x = Ok (pick (same_node x.node n) (with_speed s x) x)
-- "SetBlossom: vertices whose node or root is the given one get the blossom as node and Grow; the root stays"
execute (SetBlossom n b) v layer still x =
    Ok (pick (same_node x.node n or same_node x.root n) (led Grow b x.root x) x)
-- "AddDefectVertex: defect, Grow, node and root; an unknown vertex changes no one"
execute (AddDefectVertex w n) v layer still x = Ok (pick (eqb w.0 v) (as_defect n x) x)
-- "FindObstacle: none"
execute FindObstacle v layer still x = Ok x
-- "Grow: grown plus speed times length unless stalled, or virtual with a layer"
execute (GrowBy l) v layer still x = pick still (Ok x) (moved x.speed l x)
-- "LoadDefectsExternal: vertices of that layer cease to be virtual"
execute (LoadDefectsExternal t) v layer still x = Ok (pick (eqb layer t.0) (not_virtual x) x)

abbrev pub refusal_for : MoveError → Refusal
refusal_for BelowZero = R.BelowZero
refusal_for AboveBound = R.AboveBound

abbrev pub refusal_of : Executed → Option Refusal
refusal_of (Ok x) = none
refusal_of (Err e) = some (refusal_for e)

abbrev pub done_or : VertexRegisters → Executed → VertexRegisters
done_or x (Ok y) = y
done_or x (Err e) = x

-- ---- all vertices

-- "virtual with a layer": waiting for its layer
unfoldable pub waits : List ℕ → ℕ → VertexRegisters → Bool
waits vs v x = has_layer vs v and x.is_virtual

module _ (vs rs : List ℕ) (stalled : List Bool) (i : Instruction) where
  unfoldable pub still : ℕ → Bool
  still v = get_or stalled v false or waits vs v (at rs v)

  unfoldable pub execute_at : ℕ → Executed
  execute_at v = execute i v (layer_of vs v) (still v) (at rs v)

  -- "lowest vertex decides"
  unfoldable pub execute_refusal : ℕ → Option Refusal
  execute_refusal nv = first nv (λ v. refusal_of (execute_at v))

  unfoldable pub executed : ℕ → List ℕ
  executed nv = paint nv (λ v. keep (done_or (at rs v) (execute_at v))) rs
