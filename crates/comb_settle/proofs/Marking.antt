-- What the marks are after each place and each vertex, over variables: t holds the marks before, s those after.
use Rattle.std.proofs.Common.{ℕ, ◌+◌, ◌≤◌, ◌<◌, ◌≡◌, refl, ◌∙◌, arith, add-one, Bool, true, false, ◌||◌, List, leb, get_or, set, replicate}
use Rattle.std.proofs.Math.Bool.{or-true, or-false}
use Rattle.std.proofs.lemmas.List.{set-get_or}
use Rattle.laws.specs.Choice.{pick}
use Rattle.laws.specs.Fold.{up_to}
use Rattle.rules.specs.Registers.{at}
use Rattle.rules.specs.Units.{raise}
use Rattle.rules.specs.Peer.{is_propagating}
use Rattle.rules.specs.declared.registers.VertexRegisters.{VertexRegisters}
use Rattle.places.specs.Places.{edge_in, far_in}
use Rattle.places.specs.Wired.{Wired}
use Rattle.comb_vertex.specs.Walked.{place_of}
use Rattle.comb_settle.specs.Marked.{mark_far, mark_around, marked, mark_along, mark_along_lem}

-- a flag is raised where b holds; elsewhere it is set to what it was
raised : (b : Bool) (w : ℕ) (t : List Bool) → set t w (get_or t w false || b) ≡ pick b (raise t w) t
unfolding pick
raised true w t = rw or-true
raised false w t = rw or-false (set-get_or t w false)

-- f is the fetch weight of edge e, g the amount of the vertex that propagates
pub far_marked : (fs : List ℕ) (g e w : ℕ) (t : List Bool) {f : ℕ} → f ≡ get_or fs e 0 → set t w (get_or t w false || leb f g) ≡ mark_far fs g e w t
unfolding mark_far
far_marked fs g e w t weighs = rw (← weighs) (raised (leb _ g) w t)

-- x holds the registers of v, b is whether it propagates
module _ (es fs xs : List ℕ) (v : ℕ) {b : Bool} {x : VertexRegisters} (tells : b ≡ is_propagating x) (a : x ≡ at xs v) (ne : ℕ) where
  pub around_none : (t : List Bool) → b ≡ false → t ≡ mark_around es fs xs ne v t
  unfolding mark_around pick
  around_none t h = rw (← a, ← tells, h)

  pub around_end : (ps ds : List ℕ) (t : List Bool) (k : ℕ) {n : ℕ} {s : List Bool} → b ≡ true → s ≡ mark_along fs x.grown ps v t k → n ≡ get_or ds v 0 → k ≤ n → n ≤ k
      → Wired es ne ps ds → v < 256 → s ≡ mark_around es fs xs ne v t
  unfolding mark_around pick
  around_end ps ds t k h p d i j w u =
      let z : k ≡ get_or ds v 0 = omega arith in rw (← a, ← tells, h) (p ∙ rw z (mark_along_lem fs x.grown w v u t))

module _ (fs : List ℕ) (g : ℕ) (ps : List ℕ) (v : ℕ) (start : List Bool) where
  pub along_start : start ≡ mark_along fs g ps v start 0
  unfolding mark_along up_to
  along_start = refl

  pub along_step : (k : ℕ) {w : ℕ} {t s : List Bool} → w ≡ place_of ps v k → t ≡ mark_along fs g ps v start k → s ≡ mark_far fs g (edge_in w) (far_in w) t
      → s ≡ mark_along fs g ps v start (k + 1)
  unfolding mark_along up_to
  along_step k r q p = rw (add-one k, ← q, ← r) p

pub ruleset around = (around_none, around_end, along_start, along_step)

module _ (es fs xs : List ℕ) (ne : ℕ) {t : List Bool} where
  pub marked_start : t ≡ replicate 256 false → t ≡ marked es fs xs ne 0
  unfolding marked up_to
  marked_start p = p

  pub marked_step : (v : ℕ) {s : List Bool} → t ≡ marked es fs xs ne v → s ≡ mark_around es fs xs ne v t → s ≡ marked es fs xs ne (v + 1)
  unfolding marked up_to
  marked_step v q p = rw (add-one v, ← q) p

  pub marked_end : (v r : ℕ) {m : ℕ} → t ≡ marked es fs xs ne v → m ≡ r → v ≤ m → m ≤ v → t ≡ marked es fs xs ne r
  marked_end v r p h i j = let z : v ≡ r = omega arith in rw z at p

pub ruleset marking = (marked_start, marked_step, marked_end)
