-- The far end of an edge in use, as seen from there: it is below the reach, the edge is one of its own, and leads back, since it is no loop.
-- An edge of a vertex that has grown 0 is tight by what its far end has grown.
use Rattle.std.specs.Prelude.{ℕ, ◌+◌, ◌≤◌, ◌<◌, ◌≡◌, refl, Bool, true, false, List, leb, eqb, get_or}
use Rattle.std.proofs.Common.{arith, eqb-true, eq-eqb, leb-true, le-leb}
use Rattle.std.proofs.lemmas.Bool.{not-true}
use Rattle.laws.specs.Choice.{◌or◌, pick, by_test, and_left}
use Rattle.laws.specs.Leading.{leading_each}
use Rattle.rules.specs.Graph.{left_of, right_of, touches, far_end, fits, edges_in_use}
use Rattle.rules.specs.Registers.{at}
use Rattle.rules.specs.Fetch.{tight}
use Rattle.places.specs.Ends.{Ends, touches_left, touches_right}
use Rattle.places.specs.Wired.{Wired}

module _ (es : List ℕ) (v e : ℕ) where
  pub far_below : {ne r : ℕ} → Ends es ne r → e < ne → far_end es v e < r
  unfolding far_end
  far_below {ne} {r} ends l = by_test (λ (w : ℕ). w < r) (eqb (left_of es e) v) (λ t. ends.right e l) (λ t. ends.left e l)

  pub far_touches : touches es (far_end es v e) e ≡ true
  unfolding far_end
  far_touches = by_test (λ (w : ℕ). touches es w e ≡ true) (eqb (left_of es e) v) (λ t. touches_right es e) (λ t. touches_left es e)

-- l and r are the ends
back : (l r v : ℕ) (b : Bool) → eqb l v ≡ b → eqb l r ≡ false → (b or eqb r v) ≡ true → pick (eqb l (pick b r l)) r l ≡ v
unfolding pick ◌or◌
back l r v true t apart h = rw apart (eqb-true l v t)
back l r v false t apart h = rw (eq-eqb l l refl) (eqb-true r v h)

pub far_back : {es ps ds : List ℕ} {ne : ℕ} → Wired es ne ps ds → (v e : ℕ) → e < ne → touches es v e ≡ true → far_end es (far_end es v e) e ≡ v
unfolding touches far_end edges_in_use fits
far_back {es} w v e l h =
    let fit : fits es e ≡ true = leading_each (fits es) _ e (rw w.used at l) in
    back (left_of es e) (right_of es e) v (eqb (left_of es e) v) refl (not-true _ (and_left _ _ (and_left _ _ fit))) h

-- G tells what each has grown, f is the fetch weight
enough : (G : ℕ → ℕ) (f l r v : ℕ) (b : Bool) → eqb l v ≡ b → (b or eqb r v) ≡ true → G v ≡ 0 → f ≤ G l + G r → f ≤ G (pick b r l)
unfolding pick ◌or◌
enough G f l r v true t h z k = let near : G l ≡ 0 = rw (eqb-true l v t) z in omega arith
enough G f l r v false t h z k = let near : G r ≡ 0 = rw (eqb-true r v h) z in omega arith

pub far_tight : (es fs xs : List ℕ) (v e : ℕ) → eqb (at xs v).grown 0 ≡ true → touches es v e ≡ true → tight es xs fs e ≡ true
    → leb (get_or fs e 0) (at xs (far_end es v e)).grown ≡ true
unfolding touches far_end tight
far_tight es fs xs v e z h t =
    le-leb _ _ (enough (λ u. (at xs u).grown) (get_or fs e 0) (left_of es e) (right_of es e) v (eqb (left_of es e) v) refl h (eqb-true _ _ z) (leb-true _ _ t))
