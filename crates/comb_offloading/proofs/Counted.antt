-- The count over the places of v is that over its edges.
use Rattle.std.proofs.Common.{ℕ, ◌<◌, ◌≡◌, List}
use Rattle.laws.specs.Fold.{count_to}
use Rattle.rules.specs.Fetch.{tight_count}
use Rattle.places.specs.Wired.{Wired}
use Rattle.comb_vertex.specs.Walked.{degree_of}
use Rattle.comb_vertex.specs.Tight.{tight_at, tight_count_lem}

pub count_is : (es rs fs ps ds : List ℕ) (ne v : ℕ) {r : ℕ} → r ≡ count_to (tight_at es rs fs ps v) (degree_of ds v) → Wired es ne ps ds → v < 256
    → r ≡ tight_count es rs fs ne v
count_is es rs fs ps ds ne v p w u = rw (p, tight_count_lem es ps ds ne ne v w.used w.listed w.counted u w.small rs fs)
