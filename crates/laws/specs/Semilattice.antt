-- A join that minds neither order nor repetition: what walks join depends only on what they meet, so two walks that each have what the other
-- meets join the same.
use Prim.Native.Nat.{ℕ, zero, suc, ◌<◌}
use Rattle.std.specs.Prelude.{◌≡◌, Bool}
use Rattle.std.proofs.Math.Path.{refl, sym}
use Rattle.std.proofs.Common.{ap, ◌∙◌, arith}
use Rattle.std.proofs.Math.Bool.{true, false}
use Rattle.std.proofs.Math.Decide.{le_ind}
use Rattle.laws.specs.Choice.{pick}
use Rattle.laws.specs.Fold.{up_to}
use Rattle.laws.specs.Walk.{up_to_same}

-- none is its neutral element
pub record Semilattice {A : Type 0} (join : A → A → A) (none : A) : Type 0 where
  pub assoc : (a b c : A) → join (join a b) c ≡ join a (join b c)
  pub comm : (a b : A) → join a b ≡ join b a
  pub idem : (a : A) → join a a ≡ a
  pub unit : (a : A) → join a none ≡ a

module _ {A : Type 0} (join : A → A → A) (none : A) where
  -- f 0 .. f (n - 1), joined
  unfoldable pub joined : (ℕ → A) → ℕ → A
  joined f n = up_to (λ k a. join a (f k)) none n

  -- joining x to a changes nothing
  abbrev pub Has : A → A → Type 0
  Has a x = join a x ≡ a

  module _ (s : Semilattice join none) where
    has_more : {a x : A} (b : A) → Has a x → Has (join a b) x
    has_more {a} {x} b h = s.assoc a b x ∙ ap (join a) (s.comm b x) ∙ sym (s.assoc a x b) ∙ ap (λ (c : A). join c b) h

    has_last : (a x : A) → Has (join a x) x
    has_last a x = s.assoc a x x ∙ ap (join a) (s.idem x)

    has_both : {a x y : A} → Has a x → Has a y → Has a (join x y)
    has_both {a} {x} {y} h i = sym (s.assoc a x y) ∙ ap (λ (c : A). join c y) h ∙ i

    has_through : {a b x : A} → Has a b → Has b x → Has a x
    has_through {a} {b} {x} h i = ap (λ (c : A). join c x) (sym h) ∙ s.assoc a b x ∙ ap (join a) i ∙ h

    has_same : {a b : A} → Has a b → Has b a → a ≡ b
    has_same {a} {b} h i = sym h ∙ s.comm a b ∙ i

    -- a walk has what it meets
    pub has_met : (f : ℕ → A) (n k : ℕ) → k < n → Has (joined f n) (f k)
    unfolding joined up_to
    has_met f n k l = le_ind (λ (m : ℕ). Has (joined f m) (f k)) (has_last (joined f k) (f k)) (λ m i h. has_more (f m) h) n l

    -- and all that is in it
    pub has_part : (f : ℕ → A) (n k : ℕ) (x : A) → k < n → Has (f k) x → Has (joined f n) x
    has_part f n k x l h = has_through (has_met f n k l) h

    -- what has each has all
    pub has_all : (a : A) (f : ℕ → A) (n : ℕ) → ((k : ℕ) → k < n → Has a (f k)) → Has a (joined f n)
    unfolding joined up_to
    has_all a f zero each = s.unit a
    has_all a f (suc n) each = has_both (has_all a f n (λ k l. each k (omega arith))) (each n (omega arith))

    pub same_joined : (f g : ℕ → A) (n m : ℕ) → ((k : ℕ) → k < n → Has (joined g m) (f k)) → ((k : ℕ) → k < m → Has (joined f n) (g k))
        → joined f n ≡ joined g m
    same_joined f g n m to from = has_same (has_all (joined f n) g m from) (has_all (joined g m) f n to)

    pick_joined : (b : Bool) (a x : A) → pick b (join a x) a ≡ join a (pick b x none)
    unfolding pick
    pick_joined true a x = refl
    pick_joined false a x = sym (s.unit a)

    -- a walk that leaves out what fails a test
    pub joined_picked : (p : ℕ → Bool) (f : ℕ → A) (n : ℕ) → up_to (λ k a. pick (p k) (join a (f k)) a) none n ≡ joined (λ k. pick (p k) (f k) none) n
    unfolding joined
    joined_picked p f n =
        up_to_same (λ k a. pick (p k) (join a (f k)) a) (λ k a. join a (pick (p k) (f k) none)) none n (λ k a l. pick_joined (p k) a (f k))
