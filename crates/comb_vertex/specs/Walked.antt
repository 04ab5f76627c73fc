-- What a walk over the places of v reads: ps holds the places, ds the degrees, of which a walk makes at most 16 turns.
use Rattle.std.specs.Prelude.{ℕ, ◌+◌, ◌*◌, ◌<◌, min, ◌≡◌, List, get_or}
use Rattle.std.proofs.Common.{arith}
use Rattle.rules.specs.Graph.{edges_in_use}
use Rattle.places.specs.Places.{places_of, degrees_of}
use Rattle.places.specs.Tie.{degree_most}

abbrev pub place_of : List ℕ → ℕ → ℕ → ℕ
place_of ps v k = get_or ps (v * 16 + k) 0

unfoldable pub degree_of : List ℕ → ℕ → ℕ
degree_of ds v = min (get_or ds v 0) 16

-- of the edges in use no vertex has more
pub degree_of_lem : (es ps ds : List ℕ) (n m v : ℕ) → n ≡ edges_in_use es m → ps ≡ places_of es n → ds ≡ degrees_of es n → v < 256 → degree_of ds v ≡ get_or ds v 0
unfolding degree_of
degree_of_lem es ps ds n m v used p d u = omega (arith, degree_most es ps ds n m v used p d u)
