-- A Grow by no more than the finding before it takes nothing below zero: the finding is at most each report, a vertex at Shrink reports its
-- own amount, and an edge reports what remains over the speed at which its ends close.
use Prim.Native.Nat.{ℕ, zero, suc, ◌+◌, ◌-◌, ◌/◌, ◌%◌, ◌<◌, ◌≤◌}
use mathlib.Core.Path.{◌≡◌, refl}
use mathlib.Core.Bool.{Bool, true, false}
use mathlib.Core.List.{List}
use mathlib.Core.Option.{none}
use native.Mathlib.Omega.{arith}
use borrow.Author.Tests.{le-leb, leb-true, leb-false, eqb-true, ltb-false}
use lib.Dec.{T, leb, ltb, eqb, le→leb}
use lib.IntN.{pos, neg_ℤ}
use lib.Signed.{le_z}
use lib.ListN.{get_or}
use Rattle.laws.specs.Choice.{◌and◌, ◌or◌, pick, by_test, and_left, and_right}
use Rattle.laws.specs.Fold.{up_to_each, up_to_first}
use Rattle.rules.specs.Registers.{at, shrinking, same_node}
use Rattle.rules.specs.Execute.{moved, done_or, refusal_of}
use Rattle.rules.specs.Shadow.{shadow, yielded}
use Rattle.rules.specs.Respond.{vertex_report, joint, less, limit, meeting, respond, remaining, edge_response}
use Rattle.rules.specs.Reduce.{reduce, odd, reported, some_odd, vertex_finding, finding}
use Rattle.rules.specs.Graph.{left_of, right_of}
use Rattle.promises.specs.Careful.{NotBehind}
use Rattle.promises.proofs.Stages.{some_not_none}
use Rattle.rules.specs.declared.instruction.CompactGrowState.{CompactGrowState}
use Rattle.rules.specs.declared.instruction.CompactGrowState.TheVariants.{Stay, Grow, Shrink}
use Rattle.rules.specs.declared.registers.VertexRegisters.{VertexRegisters}
use Rattle.rules.specs.Types.{Executed, PropagatingPeer, Response, odd_remaining}
use Rattle.std.specs.Prelude.{Err, Ok}
use Rattle.rules.specs.declared.finding.Length.{Length}
use Rattle.rules.specs.declared.finding.Length.TheVariants.{NoLimit, Ahead, Behind}
use Rattle.rules.specs.declared.finding.Finding.{Finding}
use Rattle.rules.specs.declared.finding.Finding.TheVariants.{GrowLength, Conflict}

-- ---- the finding is at most each report

-- n may be grown under this finding: it is no Conflict, and no length under n
unfoldable pub Allows : ℕ → Finding → Type 0
Allows n (GrowLength NoLimit) = Unit {0}
Allows n (GrowLength (Ahead m)) = n ≤ m
Allows n (GrowLength (Behind m)) = ⊥
Allows n (Conflict a b) = ⊥

pub ahead_allows : (n m : ℕ) → n ≤ m → Allows n (GrowLength (Ahead m))
unfolding Allows
ahead_allows n m l = l

reduce_allows : (n : ℕ) (p q : Finding) → Allows n (reduce p q) → Allows n p × Allows n q
unfolding Allows
reduce_allows n (Conflict a b) q h = absurd h
reduce_allows n (GrowLength l) (Conflict a b) h = absurd h
reduce_allows n (GrowLength NoLimit) (GrowLength k) h = (tt, h)
reduce_allows n (GrowLength (Ahead m)) (GrowLength NoLimit) h = (h, tt)
reduce_allows n (GrowLength (Ahead m)) (GrowLength (Ahead k)) h = (omega arith, omega arith)
reduce_allows n (GrowLength (Ahead m)) (GrowLength (Behind k)) h = absurd h
reduce_allows n (GrowLength (Behind m)) (GrowLength NoLimit) h = absurd h
reduce_allows n (GrowLength (Behind m)) (GrowLength (Ahead k)) h = absurd h
reduce_allows n (GrowLength (Behind m)) (GrowLength (Behind k)) h = absurd h

module _ (es fs ys ss : List ℕ) (ne nv n : ℕ) (h : Allows n (finding es fs ys ss ne nv)) where
  edges_allow : (e : ℕ) → e < ne → Allows n (reported (edge_response es fs ys ss e))
  unfolding finding
  edges_allow = up_to_each (Allows n) _ _ (λ k a. reduce_allows n a (reported (edge_response es fs ys ss k))) _ ne h

  vertices_allow : (v : ℕ) → v < nv → Allows n (vertex_report (at ys v))
  unfolding finding vertex_finding
  vertices_allow =
      up_to_each (Allows n) _ _ (λ k a. reduce_allows n a (vertex_report (at ys k))) _ nv
      (up_to_first (Allows n) _ _ (λ k a. reduce_allows n a (reported (edge_response es fs ys ss k))) _ ne h)

  -- a vertex at Shrink has grown at least n
  pub shrinks_allow : (v : ℕ) → v < nv → shrinking (at ys v).speed ≡ true → n ≤ (at ys v).grown
  unfolding vertex_report pick Allows
  shrinks_allow v l e = rw e at (vertices_allow v l)

or_left : (a b : Bool) → (a or b) ≡ false → a ≡ false
unfolding ◌or◌
or_left true b e = e
or_left false b e = refl

or_right : (a b : Bool) → (a or b) ≡ false → b ≡ false
unfolding ◌or◌
or_right true b e = cc
or_right false b e = e

-- no edge is odd where none was found
pub none_odd : (es fs ys ss : List ℕ) (ne : ℕ) → some_odd es fs ys ss ne ≡ false → (e : ℕ) → e < ne → odd (edge_response es fs ys ss e) ≡ false
unfolding some_odd
none_odd es fs ys ss ne h =
    up_to_each (λ (a : Bool). a ≡ false) (λ k. odd (edge_response es fs ys ss k) ≡ false) _ (λ k a e. (or_left a _ e, or_right a _ e)) _ ne h

-- ---- a Grow moves each vertex by its shadow's speed

-- b is a after n at this speed, with nothing lost at zero
unfoldable pub Moves : CompactGrowState → ℕ → ℕ → ℕ → Type 0
Moves Stay n a b = b ≡ a
Moves Grow n a b = b ≡ a + n
Moves Shrink n a b = b + n ≡ a

pub own_moves : (s : CompactGrowState) (n : ℕ) (x : VertexRegisters) → refusal_of (moved s n x) ≡ none → Moves s n x.grown (done_or x (moved s n x)).grown
unfolding Moves moved
own_moves Stay n x h = refl
own_moves Grow n x h =
    by_test (λ (e : Executed). refusal_of e ≡ none → (done_or x e).grown ≡ x.grown + n) (ltb 67_108_863 (x.grown + n))
    (λ t e. absurd (some_not_none _ e)) (λ t e. refl) h
own_moves Shrink n x h =
    by_test (λ (e : Executed). refusal_of e ≡ none → (done_or x e).grown + n ≡ x.grown) (ltb x.grown n)
    (λ t e. absurd (some_not_none _ e)) (λ t e. omega (arith, ltb-false x.grown n t)) h

yielded_moves : (p : PropagatingPeer) (n : ℕ) (x : VertexRegisters) → 1 ≤ n → (shrinking x.speed ≡ true → n ≤ x.grown)
    → refusal_of (moved x.speed n x) ≡ none → Moves (yielded p x).speed n x.grown (done_or x (moved x.speed n x)).grown
unfolding yielded
yielded_moves p n x l h e =
    by_test (λ (y : VertexRegisters). Moves y.speed n x.grown (done_or x (moved x.speed n x)).grown) (shrinking x.speed and eqb x.grown 0)
    (λ t.
    let a : n ≤ x.grown = h (and_left _ _ t) in
    let b : x.grown ≡ 0 = eqb-true _ _ (and_right _ _ t) in
    let z : ⊥ = omega arith in
    absurd z)
    (λ t. own_moves x.speed n x e)

-- a vertex that is stalled or waits shows Stay and is passed by; one at Shrink that is not at 0 shows its own speed
pub shadow_moves : (p : PropagatingPeer) (waiting stalled : Bool) (n : ℕ) (x : VertexRegisters) → 1 ≤ n → (shrinking x.speed ≡ true → n ≤ x.grown)
    → refusal_of (pick (stalled or waiting) (Ok x) (moved x.speed n x)) ≡ none
    → Moves (shadow p waiting stalled x).speed n x.grown (done_or x (pick (stalled or waiting) (Ok x) (moved x.speed n x))).grown
unfolding pick ◌or◌ shadow Moves
shadow_moves p waiting true n x l h e = refl
shadow_moves p true false n x l h e = refl
shadow_moves p false false n x l h e = yielded_moves p n x l h e

-- ---- the room that is left on an edge

-- n at joint speed j, which is at most 2, fits into d
Closes : ℕ → ℕ → ℕ → Type 0
Closes zero n d = Unit {0}
Closes (suc zero) n d = n ≤ d
Closes (suc (suc zero)) n d = n + n ≤ d
Closes (suc (suc (suc j))) n d = Unit {0}

pub less_ahead : (w n : ℕ) → n ≤ w → NotBehind (less w n)
unfolding less pick NotBehind
less_ahead w n l = rw (le-leb n w l) (record { le = le→leb 0 (w - n) (omega arith) })

not_behind : (m : ℕ) → T (le_z (pos 0) (neg_ℤ (pos m))) → m ≡ 0
not_behind zero h = refl
not_behind (suc m) h = absurd h

pub less_le : (w n : ℕ) → NotBehind (less w n) → n ≤ w
unfolding less NotBehind
less_le w n =
    by_test (λ (l : Length). NotBehind l → n ≤ w) (leb n w) (λ t h. leb-true n w t)
    (λ t h. omega (arith, leb-false n w t, not_behind (n - w) h.le))

even_halves : (n d : ℕ) → Allows n (reported (pick (eqb (d % 2) 1) (Err odd_remaining) (Ok (GrowLength (Ahead (d / 2))))))
    → odd (pick (eqb (d % 2) 1) (Err odd_remaining) (Ok (GrowLength (Ahead (d / 2))))) ≡ false → n + n ≤ d
unfolding Allows
even_halves n d =
    by_test (λ (r : Response). Allows n (reported r) → odd r ≡ false → n + n ≤ d) (eqb (d % 2) 1)
    (λ t h e. let z : ◌≡◌ {A = ℕ} 0 1 = cc in omega arith) (λ t h e. omega arith)

limit_closes : (j n d : ℕ) → Allows n (reported (limit j (Ahead d))) → odd (limit j (Ahead d)) ≡ false → Closes j n d
unfolding limit pick Allows Closes
limit_closes zero n d h e = tt
limit_closes (suc zero) n d h e = h
limit_closes (suc (suc zero)) n d h e = even_halves n d h e
limit_closes (suc (suc (suc j))) n d h e = tt

meeting_closes : (a b : VertexRegisters) (v w n d : ℕ) → Allows n (reported (meeting a b v w (Ahead d))) → odd (meeting a b v w (Ahead d)) ≡ false → Closes (joint a.speed b.speed) n d
unfolding meeting Allows
meeting_closes a b v w n d =
    by_test (λ (r : Response). Allows n (reported r) → odd r ≡ false → Closes (joint a.speed b.speed) n d) _
    (λ t h e. absurd h) (λ t h e. limit_closes _ n d h e)

closes_none : (j n d : ℕ) → j ≡ 0 → Closes j n d
unfolding Closes
closes_none j n d e = rw e tt

second : (a b : Bool) → a ≡ false → (a or b) ≡ true → b ≡ true
unfolding ◌or◌
second true b h e = cc
second false b h e = e

respond_closes : (a b : VertexRegisters) (v w n d : ℕ) → same_node a.node b.node ≡ false
    → Allows n (reported (respond a b v w (Ahead d))) → odd (respond a b v w (Ahead d)) ≡ false → Closes (joint a.speed b.speed) n d
unfolding respond
respond_closes a b v w n d h =
    by_test (λ (r : Response). Allows n (reported r) → odd r ≡ false → Closes (joint a.speed b.speed) n d) _
    (λ t p e. closes_none _ n d (eqb-true _ 0 (second _ _ h t))) (λ t p e. meeting_closes a b v w n d p e)

keeps_room : (s t : CompactGrowState) (n w a b a' b' : ℕ) → Moves s n a a' → Moves t n b b' → a + b ≤ w → Closes (joint s t) n (w - (a + b)) → a' + b' ≤ w
unfolding Moves Closes
keeps_room Stay Stay n w a b a' b' p q l h = omega arith
keeps_room Stay Grow n w a b a' b' p q l h = omega arith
keeps_room Stay Shrink n w a b a' b' p q l h = omega arith
keeps_room Grow Stay n w a b a' b' p q l h = omega arith
keeps_room Grow Grow n w a b a' b' p q l h = omega arith
keeps_room Grow Shrink n w a b a' b' p q l h = omega arith
keeps_room Shrink Stay n w a b a' b' p q l h = omega arith
keeps_room Shrink Grow n w a b a' b' p q l h = omega arith
keeps_room Shrink Shrink n w a b a' b' p q l h = omega arith

less_is : (w n : ℕ) → n ≤ w → less w n ≡ Ahead (w - n)
unfolding less pick
less_is w n l = rw (le-leb n w l)

-- what the ends of an edge have grown together
abbrev pub covered : List ℕ → List ℕ → ℕ → ℕ
covered es rs e = (at rs (left_of es e)).grown + (at rs (right_of es e)).grown

-- an edge whose ends show different nodes: if they covered at most its weight, and each end moves by its shadow's speed, they still do
module _ (es fs ys ss zs : List ℕ) (ne nv n : ℕ) (h : Allows n (finding es fs ys ss ne nv)) (even : some_odd es fs ys ss ne ≡ false)
    (moves : (v : ℕ) → Moves (at ss v).speed n (at ys v).grown (at zs v).grown) where
  pub room : (e : ℕ) → e < ne → same_node (at ss (left_of es e)).node (at ss (right_of es e)).node ≡ false
      → covered es ys e ≤ get_or fs e 0 → covered es zs e ≤ get_or fs e 0
  unfolding edge_response remaining
  room e l d c =
      let r : less (get_or fs e 0) (covered es ys e) ≡ Ahead (get_or fs e 0 - covered es ys e) = less_is _ _ c in
      keeps_room (at ss (left_of es e)).speed (at ss (right_of es e)).speed n (get_or fs e 0) _ _ _ _ (moves (left_of es e)) (moves (right_of es e)) c
      (respond_closes (at ss (left_of es e)) (at ss (right_of es e)) (left_of es e) (right_of es e) n _ d
      (rw r at (edges_allow es fs ys ss ne nv n h e l)) (rw r at (none_odd es fs ys ss ne even e l)))
