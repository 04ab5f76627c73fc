-- Stages 5 and 6 at one vertex, by its places: ps holds the places, ds the degrees.
use Rattle.std.specs.Prelude.{ℕ, ◌/◌, ◌%◌, Bool, false, ◌&&◌, List, ltb, get_or}
use Rattle.rules.specs.Registers.{at, keep}
use Rattle.rules.specs.Execute.{waits}
use Rattle.rules.specs.Update.{update}
use Rattle.rules.specs.Shadow.{shadow}
use Rattle.rules.specs.declared.registers.VertexRegisters.{VertexRegisters}
use Rattle.rules.specs.Types.{PropagatingPeer}
use Rattle.comb_vertex.specs.Led.{peer_at}

-- a word that registers keep: 62 bits, and a speed's code
unfoldable pub kept : ℕ → Bool
kept w = ltb w 4_611_686_018_427_387_904 && ltb (w / 288_230_376_151_711_744 % 4) 3

module _ (es fs xs ps ds : List ℕ) where
  unfoldable pub updated_word : ℕ → ℕ
  updated_word v = keep (update (peer_at es fs xs ps ds v) (at xs v))

-- y holds the registers of v after stage 5
unfoldable pub seen_by : List ℕ → List Bool → ℕ → PropagatingPeer → VertexRegisters → ℕ
seen_by vs stalled v p y = keep (shadow p (waits vs v y) (get_or stalled v false) y)

unfoldable pub shadow_word : List ℕ → List ℕ → List ℕ → List ℕ → List ℕ → List ℕ → List Bool → ℕ → ℕ
shadow_word vs es fs xs ps ds stalled v = seen_by vs stalled v (peer_at es fs xs ps ds v) (update (peer_at es fs xs ps ds v) (at xs v))
