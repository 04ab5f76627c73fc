-- Each kind's condition by the ends that the code has: l and r, or x, the end that is not w.
use Rattle.std.proofs.Common.{ℕ, ◌≡◌, Bool, List, eqb}
use Rattle.laws.specs.Choice.{◌and◌}
use Rattle.rules.specs.Graph.{left_of, right_of, far_end}
use Rattle.rules.specs.Registers.{at}
use Rattle.rules.specs.Fetch.{tight, tight_count}
use Rattle.rules.specs.Units.{eager, defect_match, virtual_match, fusion_match}
use Rattle.comb_offloading.specs.Vertex.{eager_by}
use Rattle.comb_offloading.specs.Around.{others_permit}

module _ (es rs fs : List ℕ) (ne e : ℕ) {b : Bool} where
  pub defect_ends : {l r : ℕ} → l ≡ left_of es e → r ≡ right_of es e
      → b ≡ (eager_by rs l and eager_by rs r and tight es rs fs e and eqb (tight_count es rs fs ne l) 1 and eqb (tight_count es rs fs ne r) 1)
      → b ≡ defect_match es rs fs ne e
  unfolding defect_match eager eager_by
  defect_ends p q h = rw (← p, ← q) h

  module _ (w : ℕ) {x : ℕ} (p : x ≡ far_end es w e) where
    pub virtual_ends : b ≡ ((at rs w).is_virtual and eager_by rs x and tight es rs fs e and others_permit es rs fs ne e x)
        → b ≡ virtual_match es rs fs ne e w (far_end es w e)
    unfolding virtual_match eager eager_by others_permit
    virtual_ends h = rw (← p) h

    pub fusion_ends : b ≡ ((at rs w).is_virtual and eager_by rs x and tight es rs fs e and eqb (tight_count es rs fs ne x) 0)
        → b ≡ fusion_match es rs fs ne e w (far_end es w e)
    unfolding fusion_match eager eager_by
    fusion_ends h = rw (← p) h
