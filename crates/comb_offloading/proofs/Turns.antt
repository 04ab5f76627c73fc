-- What the loops hold at their start, after each turn and at their end: the flags after the places of v passed, and after the units passed.
use Rattle.std.proofs.Common.{ℕ, ◌+◌, ◌*◌, ◌≤◌, ◌<◌, ◌≡◌, refl, ◌∙◌, arith, add-one, Bool, true, false, List, get_or}
use Rattle.laws.specs.Choice.{pick}
use Rattle.laws.specs.Fold.{up_to}
use Rattle.rules.specs.Graph.{unit_of}
use Rattle.rules.specs.Units.{raise, stalls_around}
use Rattle.rules.specs.declared.graph.OffloadingType.{OffloadingType}
use Rattle.places.specs.Places.{edge_in, far_in}
use Rattle.places.specs.Wired.{Wired}
use Rattle.comb_offloading.specs.Around.{tight_other, stalls_by, stalls_along, stalls_along_lem}
use Rattle.comb_offloading.specs.Offload.{by_unit, by_units}

module _ (es rs fs : List ℕ) (e : ℕ) (ps : List ℕ) (v : ℕ) (flags : List Bool) where
  pub stall_start : flags ≡ stalls_along es rs fs e ps v flags 0
  unfolding stalls_along up_to
  stall_start = refl

  pub stall_step : (k : ℕ) {w : ℕ} {t s : List Bool} → w ≡ get_or ps (v * 16 + k) 0 → t ≡ stalls_along es rs fs e ps v flags k
      → s ≡ stalls_by es rs fs e (edge_in w) (far_in w) t → s ≡ stalls_along es rs fs e ps v flags (k + 1)
  unfolding stalls_along up_to
  stall_step k r q p = rw (add-one k, ← q, ← r) p

  pub stall_end : (k ne : ℕ) (start : List Bool) {ds : List ℕ} {n : ℕ} {t : List Bool} → t ≡ stalls_along es rs fs e ps v flags k → flags ≡ raise start v
      → n ≡ get_or ds v 0 → k ≤ n → n ≤ k → Wired es ne ps ds → v < 256 → t ≡ stalls_around es rs fs ne e v start
  unfolding stalls_around
  stall_end k ne start {ds} p q d i j w u = let z : k ≡ get_or ds v 0 = omega arith in p ∙ rw (z, stalls_along_lem es rs fs e w v u flags, q)

-- place k, whose far end is x
module _ (es rs fs : List ℕ) (e k x : ℕ) (flags : List Bool) {b : Bool} (t : b ≡ tight_other es rs fs e k) where
  pub far_kept : b ≡ false → flags ≡ stalls_by es rs fs e k x flags
  unfolding stalls_by pick
  far_kept h = rw (← t, h)

  pub far_raised : b ≡ true → {y : ℕ} → y ≡ x → {s : List Bool} → s ≡ raise flags y → s ≡ stalls_by es rs fs e k x flags
  unfolding stalls_by pick
  far_raised h far p = rw (← t, h, ← far) p

pub ruleset stalling = (stall_start, stall_step, stall_end, far_kept, far_raised)

module _ (es rs fs : List ℕ) (ne : ℕ) (f : OffloadingType → List Bool → List Bool) (us : List ℕ) (flags : List Bool) where
  pub units_start : flags ≡ by_units es rs fs ne f us flags 0
  unfolding by_units up_to
  units_start = refl

  pub units_step : (k : ℕ) {w : ℕ} {u : OffloadingType} {t s : List Bool} → w ≡ get_or us k 0 → u ≡ unit_of w → t ≡ by_units es rs fs ne f us flags k → s ≡ by_unit es rs fs ne f u t
      → s ≡ by_units es rs fs ne f us flags (k + 1)
  unfolding by_units up_to
  units_step k r q h p = rw (add-one k, ← r, ← q, ← h) p

  pub units_end : (k m : ℕ) {n : ℕ} {s : List Bool} → s ≡ by_units es rs fs ne f us flags k → k ≤ n → n ≤ k → n ≡ m → s ≡ by_units es rs fs ne f us flags m
  units_end k m p i j e = let z : k ≡ m = omega arith in rw (← z) p

pub ruleset turns = (units_start, units_step, units_end)
