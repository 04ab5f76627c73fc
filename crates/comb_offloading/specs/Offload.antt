-- What the units leave in the flags, from the flags that were there.
use Rattle.std.specs.Prelude.{ℕ, ◌≡◌, Bool, false, List, get_or, replicate}
use Rattle.std.proofs.Math.Path.{refl}
use Rattle.laws.specs.Choice.{pick}
use Rattle.laws.specs.Fold.{up_to}
use Rattle.rules.specs.Graph.{unit_of}
use Rattle.rules.specs.Units.{raise, edge_of, holds, stalls, stalled_vertices, stalled_edges}
use Rattle.rules.specs.declared.graph.OffloadingType.{OffloadingType}

-- "Each holding unit stalls its edge"; which vertices it stalls `stalls` says
unfoldable pub stalls_edge : OffloadingType → List Bool → List Bool
stalls_edge u flags = raise flags (edge_of u)

-- what f does to the flags, where a unit holds
module _ (es rs fs : List ℕ) (ne : ℕ) (f : OffloadingType → List Bool → List Bool) where
  unfoldable pub by_unit : OffloadingType → List Bool → List Bool
  by_unit u flags = pick (holds es rs fs ne u) (f u flags) flags

  -- by the first n of the units us
  unfoldable pub by_units : List ℕ → List Bool → ℕ → List Bool
  by_units us flags n = up_to (λ k t. by_unit (unit_of (get_or us k 0)) t) flags n

-- from blank flags this is what rules/specs/Units.antt says
module _ (es rs fs : List ℕ) (ne : ℕ) (us : List ℕ) (nu : ℕ) where
  pub blank_vertices : by_units es rs fs ne (stalls es rs fs ne) us (replicate 256 false) nu ≡ stalled_vertices es rs fs ne us nu
  unfolding by_units by_unit stalled_vertices
  blank_vertices = refl

  pub blank_edges : by_units es rs fs ne stalls_edge us (replicate 1_024 false) nu ≡ stalled_edges es rs fs ne us nu
  unfolding by_units by_unit stalls_edge stalled_edges
  blank_edges = refl
