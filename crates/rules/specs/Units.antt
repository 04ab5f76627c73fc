-- Stage 2: which units hold, and what they stall. rs holds the registers before the instruction, fs the fetch weights.
use Rattle.std.specs.Prelude.{ℕ, Bool, true, false, not, List, eqb, get_or, set, replicate}
use Rattle.laws.specs.Choice.{◌and◌, ◌or◌, pick}
use Rattle.laws.specs.Fold.{up_to, all_to}
use Rattle.rules.specs.Graph.{left_of, right_of, touches, far_end, unit_of}
use Rattle.rules.specs.Registers.{at, growing}
use Rattle.rules.specs.Fetch.{tight, tight_count}
use Rattle.rules.specs.declared.graph.OffloadingType.{OffloadingType}
use Rattle.rules.specs.declared.graph.OffloadingType.TheVariants.{DefectMatch, VirtualMatch, FusionMatch}

abbrev pub raise : List Bool → ℕ → List Bool
raise flags k = set flags k true

abbrev pub edge_of : OffloadingType → ℕ
edge_of (DefectMatch e) = e.0
edge_of (VirtualMatch e v) = e.0
edge_of (FusionMatch e v) = e.0

module _ (es rs fs : List ℕ) (ne : ℕ) where
  -- a growing defect
  unfoldable pub eager : ℕ → Bool
  eager v = (at rs v).is_defect and growing (at rs v).speed

  abbrev pub count : ℕ → ℕ
  count v = tight_count es rs fs ne v

  -- "edge tight, both ends defects, growing, each with tight count 1"
  unfoldable pub defect_match : ℕ → Bool
  defect_match e =
      eager (left_of es e) and eager (right_of es e) and tight es rs fs e
      and eqb (count (left_of es e)) 1 and eqb (count (right_of es e)) 1

  -- "each other edge of that end": other by edge index, so a parallel edge is an other one
  unfoldable pub is_other : ℕ → ℕ → ℕ → Bool
  is_other e v k = touches es v k and not (eqb k e)

  -- "untight or leading to a non-defect with tight count 1"
  unfoldable pub permits : ℕ → ℕ → Bool
  permits v k = not (tight es rs fs k) or not (at rs (far_end es v k)).is_defect and eqb (count (far_end es v k)) 1

  -- "edge tight, named end virtual, other end a growing defect, and each other edge of that end untight or .." v is that end
  unfoldable pub virtual_match : ℕ → ℕ → ℕ → Bool
  virtual_match e w v =
      (at rs w).is_virtual and eager v and tight es rs fs e and all_to (λ k. not (is_other e v k) or permits v k) ne

  -- "edge tight, conditioned vertex virtual, other end a growing defect with tight count 0"
  unfoldable pub fusion_match : ℕ → ℕ → ℕ → Bool
  fusion_match e w v = (at rs w).is_virtual and eager v and tight es rs fs e and eqb (count v) 0

  unfoldable pub holds : OffloadingType → Bool
  holds (DefectMatch e) = defect_match e.0
  holds (VirtualMatch e w) = virtual_match e.0 w.0 (far_end es w.0 e.0)
  holds (FusionMatch e w) = fusion_match e.0 w.0 (far_end es w.0 e.0)

  -- "stalls that end and the far end of each tight other edge"
  unfoldable pub stalls_around : ℕ → ℕ → List Bool → List Bool
  stalls_around e v flags = up_to (λ k t. pick (is_other e v k and tight es rs fs k) (raise t (far_end es v k)) t) (raise flags v) ne

  -- the vertices that a holding unit stalls
  unfoldable pub stalls : OffloadingType → List Bool → List Bool
  stalls (DefectMatch e) flags = raise (raise flags (left_of es e.0)) (right_of es e.0)
  stalls (VirtualMatch e w) flags = stalls_around e.0 (far_end es w.0 e.0) flags
  stalls (FusionMatch e w) flags = raise flags (far_end es w.0 e.0)

  module _ (us : List ℕ) (nu : ℕ) where
    abbrev pub unit_at : ℕ → OffloadingType
    unit_at k = unit_of (get_or us k 0)

    unfoldable pub stalled_vertices : List Bool
    stalled_vertices = up_to (λ k t. pick (holds (unit_at k)) (stalls (unit_at k) t) t) (replicate 256 false) nu

    -- "Each holding unit stalls its edge"
    unfoldable pub stalled_edges : List Bool
    stalled_edges = up_to (λ k t. pick (holds (unit_at k)) (raise t (edge_of (unit_at k))) t) (replicate 1_024 false) nu
