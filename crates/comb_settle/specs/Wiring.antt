-- Over the places of the edges in use these are stages 5 and 6 of document 01.
use Prim.Native.Nat.{ℕ, zero, suc, ◌+◌, ◌≤◌, ◌<◌}
use Rattle.std.specs.Prelude.{◌≡◌, Bool, length, Some, None}
use Rattle.std.proofs.Math.Path.{refl, sym}
use Rattle.std.proofs.Common.{◌∙◌, add-zero}
use mathlib.Core.List.{List, [], ◌∷◌}
use Rattle.std.proofs.Math.Option.{Option, none, some}
use native.Mathlib.Omega.{arith}
use Rattle.laws.specs.Choice.{by_test}
use Rattle.laws.specs.First.{first}
use Rattle.laws.specs.Table.{paint, paint_from, paint_same, get_or_painted}
use Rattle.rules.specs.Registers.{at, keep}
use Rattle.rules.proofs.Round.{InRange, at_in_range, round}
use Rattle.rules.specs.Peer.{lead_by, served_by, peer}
use Rattle.rules.specs.Update.{is_loose, follow, update, updated}
use Rattle.rules.specs.Shadow.{shadows}
use Rattle.rules.specs.declared.registers.VertexRegisters.{VertexRegisters}
use Rattle.rules.specs.Types.{PropagatingPeer}
use Rattle.places.specs.Wired.{Wired}
use Rattle.comb_vertex.specs.Execution.{paint_over}
use Rattle.comb_vertex.specs.Led.{peer_at, peer_is}
use Rattle.comb_settle.specs.Settled.{updated_word, seen_by, shadow_word}

-- ---- stage 5 leaves registers in range, so that the word of a vertex shows them

abbrev PeerInRange : PropagatingPeer → Type 0
PeerInRange None = Unit
PeerInRange (Some lead) = (lead.node.0 < 65_536) × (lead.root.0 < 65_536)

lead_in_range : (xs : List ℕ) (o : Option ℕ) → PeerInRange (lead_by xs o)
lead_in_range xs none = tt
lead_in_range xs (some w) = ((at_in_range xs w).node, (at_in_range xs w).root)

peer_in_range : (es fs xs : List ℕ) (ne v : ℕ) → PeerInRange (peer es fs xs ne v)
unfolding peer
peer_in_range es fs xs ne v = by_test PeerInRange _ (λ t. lead_in_range xs (first ne (served_by es fs xs ne v))) (λ t. tt)

follow_in_range : (p : PropagatingPeer) (x : VertexRegisters) → PeerInRange p → InRange x → InRange (follow p x)
follow_in_range None x h r = record { grown = r.grown; node = omega arith; root = omega arith }
follow_in_range (Some lead) x h r = record { grown = r.grown; node = h.0; root = h.1 }

update_in_range : (p : PropagatingPeer) (x : VertexRegisters) → PeerInRange p → InRange x → InRange (update p x)
unfolding update
update_in_range p x h r = by_test InRange (is_loose x) (λ t. follow_in_range p x h r) (λ t. r)

-- ---- a table is painted inside its length only

module _ {A : Type 0} (f g : ℕ → A) where
  within_from : (i n : ℕ) (xs : List A) → ((k : ℕ) → k < n → k < length xs → f (i + k) ≡ g (i + k)) → paint_from i n f xs ≡ paint_from i n g xs
  unfolding paint_from
  within_from i zero xs h = refl
  within_from i (suc n) [] h = refl
  within_from i (suc n) (x ∷ xs) h =
      let here : f i ≡ g i = rw (add-zero i) at (h 0 (omega arith) (omega arith)) in
      rw (here, within_from (suc i) n xs (λ k a b. let e : suc i + k ≡ i + suc k = omega arith in rw e (h (suc k) (omega arith) (omega arith))))

  paint_within : (n : ℕ) (xs : List A) → ((k : ℕ) → k < n → k < length xs → f k ≡ g k) → paint n f xs ≡ paint n g xs
  unfolding paint
  paint_within n xs h = within_from 0 n xs (λ k a b. let e : 0 + k ≡ k = omega arith in rw e (h k a b))

module _ {es ps ds : List ℕ} {ne : ℕ} (w : Wired es ne ps ds) (fs xs : List ℕ) where
  pub led : (v : ℕ) → v < 256 → peer_at es fs xs ps ds v ≡ peer es fs xs ne v
  led v u = peer_is es ps ds ne ne v w.used w.listed w.counted u w.small fs xs

  pub updated_by : (n : ℕ) → n ≤ 256 → paint n (updated_word es fs xs ps ds) xs ≡ updated es fs xs ne n
  unfolding updated_word updated
  updated_by n l = paint_same _ _ n xs (λ v u. rw (led v (omega arith)))

  abbrev next : ℕ → VertexRegisters
  next v = update (peer es fs xs ne v) (at xs v)

  -- what stands in the table after stage 5
  shown : (n v : ℕ) → v < n → v < length xs → at (updated es fs xs ne n) v ≡ next v
  unfolding updated at
  shown n v a b =
      rw (get_or_painted (λ k. keep (next k)) n xs v 0 a b) (round (next v) (update_in_range (peer es fs xs ne v) (at xs v) (peer_in_range es fs xs ne v) (at_in_range xs v)))

  repainted : (f : ℕ → ℕ) (n : ℕ) → paint n f (updated es fs xs ne n) ≡ paint n f xs
  unfolding updated
  repainted f n = paint_over f _ n xs

  pub shadows_by : (vs : List ℕ) (stalled : List Bool) (n : ℕ) → n ≤ 256
      → paint n (shadow_word vs es fs xs ps ds stalled) xs ≡ shadows vs es fs xs (updated es fs xs ne n) stalled ne n
  unfolding shadow_word seen_by shadows
  shadows_by vs stalled n l =
      paint_within _ _ n xs (λ v a b. rw (led v (omega arith), shown n v a b)) ∙ sym (repainted _ n)
