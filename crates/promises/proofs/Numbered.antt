-- A vertex at Grow has a number as its node: an instruction that gives Grow gives a number with it, and a vertex that takes Grow from a peer
-- takes the peer's node too. Node and root are numbers together or not at all.
use Prim.Native.Nat.{ℕ, ◌≤◌}
use mathlib.Core.Path.{◌≡◌, refl, sym, ◌∙◌}
use mathlib.Core.Bool.{Bool, true, false}
use mathlib.Core.List.{List}
use mathlib.Core.Option.{Option, none, some}
use native.Mathlib.Omega.{arith}
use borrow.Author.Tests.{eqb-true, ne_eqb}
use lib.Dec.{eqb}
use Rattle.laws.specs.Choice.{◌or◌, pick, by_test, and_left, and_right}
use Rattle.laws.specs.Tests.{neither as neither-test}
use Rattle.laws.specs.First.{first, first_has}
use lib.ListN.{replicate}
use Rattle.rules.specs.Graph.{in_use, has_layer, is_default_virtual}
use Rattle.rules.specs.Registers.{view, speed_of, at, fresh, growing, no_node}
use Rattle.rules.specs.Execute.{led, execute, execute_at, moved, done_or}
use Rattle.rules.specs.Peer.{is_propagating, lead_by, serves, served_by, peer}
use Rattle.rules.specs.Update.{follow, update}
use Rattle.rules.specs.Shadow.{yield, yielded, shadow}
use Rattle.rules.specs.State.{fresh_registers, fresh_state, first_state}
use Rattle.rules.specs.Instruct.{weights_fetched, vertices_stalled}
use Rattle.rules.specs.Run.{Call, run}
use Rattle.rules.specs.declared.graph.Graph.{Graph}
use Rattle.rules.specs.declared.state.State.{State}
use Rattle.rules.specs.declared.finding.Finding.{Finding}
use Rattle.rules.specs.declared.instruction.CompactGrowState.{CompactGrowState}
use Rattle.rules.specs.declared.instruction.CompactGrowState.TheVariants.{Stay, Grow, Shrink}
use Rattle.rules.specs.declared.instruction.Instruction.{Instruction}
use Rattle.rules.specs.declared.instruction.Instruction.TheVariants.{SetSpeed, SetBlossom, AddDefectVertex, FindObstacle, Grow as GrowBy, LoadDefectsExternal}
use Rattle.rules.specs.declared.registers.VertexRegisters.{VertexRegisters}
use Rattle.rules.specs.Types.{Executed, PropagatingPeer}
use Rattle.std.specs.Prelude.{None, Some}
use Rattle.promises.specs.Cycle.{after_execute, after_update, shadows_seen}
use Rattle.promises.proofs.Stages.{fresh_fits, Bounded, filled_has, update_at, executed_has, updated_has, shadows_has}
use Rattle.promises.proofs.Completed.{Completed}
use Rattle.promises.proofs.Reached.{blank, run_from_fresh}

pub data Together (n t : ℕ) : Type 0 where
  numbers : n ≤ 32_767 → t ≤ 32_767 → Together n t
  neither : 65_534 ≤ n → 65_534 ≤ t → Together n t

pub record Numbered (x : VertexRegisters) : Type 0 where
  pub number : growing x.speed ≡ true → x.node.0 ≤ 32_767
  pub together : Together x.node.0 x.root.0

idle : (x : VertexRegisters) → x.speed ≡ Stay → Together x.node.0 x.root.0 → Numbered x
idle x e h = record { number = λ g. let z : ◌≡◌ {A = Bool} true false = cc in let y : ◌≡◌ {A = ℕ} 0 1 = cc in let w : ⊥ = omega arith in absurd w; together = h }

-- the root of a number is a number
pub root_number : (n t : ℕ) → Together n t → n ≤ 32_767 → t ≤ 32_767
root_number n t (numbers p q) l = q
root_number n t (neither p q) l = let z : ⊥ = omega arith in absurd z

-- a vertex that a blossom takes has the given number as node or root
taken_root : (n t m : ℕ) → m ≤ 32_767 → Together n t → (eqb n m or eqb t m) ≡ true → t ≤ 32_767
taken_root n t m l (numbers p q) h = q
taken_root n t m l (neither p q) h =
    let a : eqb n m ≡ false = ne_eqb n m (λ e. omega arith) in
    let b : eqb t m ≡ false = ne_eqb t m (λ e. omega arith) in
    let z : ◌≡◌ {A = Bool} true false = sym h ∙ neither-test (eqb n m) (eqb t m) a b in
    let y : ◌≡◌ {A = ℕ} 0 1 = cc in let w : ⊥ = omega arith in absurd w

moved_numbered : (s : CompactGrowState) (l : ℕ) (x : VertexRegisters) → Numbered x → Numbered (done_or x (moved s l x))
unfolding moved
moved_numbered Stay l x h = h
moved_numbered Grow l x h = by_test (λ (e : Executed). Numbered (done_or x e)) _ (λ t. h) (λ t. record { number = h.number; together = h.together })
moved_numbered Shrink l x h = by_test (λ (e : Executed). Numbered (done_or x e)) _ (λ t. h) (λ t. record { number = h.number; together = h.together })

execute_numbered : (i : Instruction) → Bounded i → (v layer : ℕ) (stays : Bool) (x : VertexRegisters) → Numbered x → Numbered (done_or x (execute i v layer stays x))
unfolding execute
execute_numbered (SetSpeed n s) b v layer stays x h =
    by_test Numbered _ (λ t. record { number = λ g. let e : x.node.0 ≡ n.0 = eqb-true x.node.0 n.0 t in omega arith; together = h.together }) (λ t. h)
execute_numbered (SetBlossom n c) b v layer stays x h =
    by_test Numbered _ (λ t. record { number = λ g. b.1; together = numbers b.1 (taken_root x.node.0 x.root.0 n.0 b.0 h.together t) }) (λ t. h)
execute_numbered (AddDefectVertex w n) b v layer stays x h = by_test Numbered _ (λ t. record { number = λ g. b; together = numbers b b }) (λ t. h)
execute_numbered FindObstacle b v layer stays x h = h
execute_numbered (GrowBy l) b v layer stays x h = by_test (λ (e : Executed). Numbered (done_or x e)) stays (λ t. h) (λ t. moved_numbered x.speed l x h)
execute_numbered (LoadDefectsExternal k) b v layer stays x h = by_test Numbered _ (λ t. record { number = h.number; together = h.together }) (λ t. h)

abbrev PeerNumbered : PropagatingPeer → Type 0
PeerNumbered None = Unit {0}
PeerNumbered (Some lead) = (lead.node.0 ≤ 32_767) × (lead.root.0 ≤ 32_767)

follow_numbered : (p : PropagatingPeer) → PeerNumbered p → (x : VertexRegisters) → Numbered (follow p x)
follow_numbered None l x = idle _ refl (neither (omega arith) (omega arith))
follow_numbered (Some lead) l x = record { number = λ g. l.0; together = numbers l.0 l.1 }

yield_numbered : (p : PropagatingPeer) → PeerNumbered p → (x : VertexRegisters) → Numbered x → Numbered (yield p x)
yield_numbered None l x h = h
yield_numbered (Some lead) l x h = record { number = λ g. l.0; together = numbers l.0 l.1 }

shadow_numbered : (p : PropagatingPeer) → PeerNumbered p → (waiting stalled : Bool) (x : VertexRegisters) → Numbered x → Numbered (shadow p waiting stalled x)
unfolding shadow yielded
shadow_numbered p l waiting stalled x h = by_test Numbered stalled (λ t. idle _ refl inner.together) (λ t. inner)
  where
    inner : Numbered (pick waiting (led Stay no_node no_node x) (yielded p x))
    inner = by_test Numbered waiting (λ t. idle _ refl (neither (omega arith) (omega arith))) (λ t. by_test Numbered _ (λ u. yield_numbered p l x h) (λ u. h))

module _ (es fs xs : List ℕ) (ne : ℕ) (ok : (v : ℕ) → Numbered (at xs v)) where
  -- the vertex that leads is at Grow
  abbrev Led : Option ℕ → Type 0
  Led none = Unit {0}
  Led (some p) = growing (at xs p).speed ≡ true

  first_led : (v : ℕ) → Led (first ne (served_by es fs xs ne v))
  unfolding served_by serves is_propagating
  first_led v = first_has Led tt ne _ (λ e l. by_test Led _ (λ t. and_left _ _ (and_left _ _ (and_right _ _ t))) (λ t. tt))

  lead_numbered : (o : Option ℕ) → Led o → PeerNumbered (lead_by xs o)
  lead_numbered none l = tt
  lead_numbered (some p) l = ((ok p).number l, root_number _ _ (ok p).together ((ok p).number l))

  peer_numbered : (v : ℕ) → PeerNumbered (peer es fs xs ne v)
  unfolding peer
  peer_numbered v = by_test PeerNumbered _ (λ t. lead_numbered (first ne (served_by es fs xs ne v)) (first_led v)) (λ t. tt)

  update_numbered : (v : ℕ) → Numbered (update_at es fs xs ne v)
  unfolding update
  update_numbered v = by_test Numbered _ (λ t. follow_numbered (peer es fs xs ne v) (peer_numbered v) (at xs v)) (λ t. ok v)

fresh_idle : (b : Bool) → Numbered (fresh b)
unfolding fresh
fresh_idle true = idle _ refl (neither (omega arith) (omega arith))
fresh_idle false = idle _ refl (neither (omega arith) (omega arith))

pub record AllNumbered (rs : List ℕ) : Type 0 where
  pub each : (v : ℕ) → Numbered (at rs v)

-- what each stage leaves of registers that are numbered
module _ (g : Graph) (s : State) (i : Instruction) (b : Bounded i) (p : AllNumbered s.registers) where
  executed_numbered : (v : ℕ) → Numbered (at (after_execute g s i) v)
  unfolding execute_at
  executed_numbered v =
      executed_has g.vertices s.registers (vertices_stalled g s) i b g.nv Numbered v
      (λ l. execute_numbered i b v _ _ (at s.registers v) (p.each v)) (p.each v)

  pub updated_numbered : (v : ℕ) → Numbered (at (after_update g s i) v)
  updated_numbered v =
      updated_has _ _ (after_execute g s i) _ g.nv Numbered v (λ l. update_numbered _ _ _ _ executed_numbered v) (executed_numbered v)

  pub shadows_numbered : (v : ℕ) → Numbered (at (shadows_seen g s i) v)
  shadows_numbered v =
      shadows_has g.vertices g.edges (weights_fetched g s) (after_execute g s i) (after_update g s i) (vertices_stalled g s) g.ne g.nv Numbered v
      (λ l. shadow_numbered _ (peer_numbered _ _ _ _ executed_numbered v) _ _ _ (updated_numbered v)) (updated_numbered v)

module _ (g : Graph) where
  pub cycle_numbered : (s t : State) (i : Instruction) (f : Finding) → Bounded i → AllNumbered s.registers → Completed (in_use g) s i t f → AllNumbered t.registers
  cycle_numbered s t i f b p h = record { each = λ v. rw h.registers (updated_numbered (in_use g) s i b p v) }

  zero_numbered : (v : ℕ) → Numbered (at (replicate 256 0) v)
  unfolding at view speed_of pick
  zero_numbered v = rw (blank 256 v) (idle _ refl (numbers (omega arith) (omega arith)))

  pub fresh_numbered : (m : ℕ) → AllNumbered (fresh_state g m).registers
  unfolding fresh_state fresh_registers
  fresh_numbered m = record {
    each = λ v.
        filled_has (λ v. fresh (has_layer g.vertices v or is_default_virtual g.vertices v)) (λ v. fresh_fits _) (in_use g).nv (replicate 256 0) Numbered v
        (λ l. fresh_idle _) (zero_numbered v);
  }

  -- over any run from a fresh decoder
  pub run_numbered : (cs : List Call) → AllNumbered (run g (first_state g) cs).registers
  run_numbered = run_from_fresh g (λ s es. AllNumbered s.registers) fresh_numbered (λ m s es p. p) (λ s t i f es. cycle_numbered s t i f)
