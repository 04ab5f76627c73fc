-- One edge more: it is the last of each end's, and no other vertex has it.
use Rattle.std.proofs.Common.{ℕ, ◌+◌, ◌*◌, ◌/◌, ◌%◌, ◌<◌, ◌≡◌, refl, sym, ap, ◌∙◌, Bool, true, false, List, [], ◌∷◌, ◌++◌, add-one, arith, length, set, length-append, eq-eqb, ne_eqb}
use Rattle.laws.specs.Choice.{◌or◌, pick}
use Rattle.laws.specs.Stored.{set_two}
use Rattle.laws.specs.Lists.{map_end, map_rest, indices_more, indices_skip}
use Rattle.rules.specs.Graph.{left_of, right_of, touches, far_end}
use Rattle.places.specs.Ends.{touches_left, touches_right}
use Rattle.places.specs.Places.{touching, place_word, place_at, places_of, degrees_of}

module _ (es : List ℕ) (e : ℕ) where
  touches_other : (v : ℕ) → (v ≡ left_of es e → ⊥) → (v ≡ right_of es e → ⊥) → touches es v e ≡ false
  unfolding touches ◌or◌
  touches_other v p q = rw (ne_eqb (left_of es e) v (λ z. p (sym z)), ne_eqb (right_of es e) v (λ z. q (sym z)))

  far_left : far_end es (left_of es e) e ≡ right_of es e
  unfolding far_end pick
  far_left = rw (eq-eqb (left_of es e) (left_of es e) refl)

  far_right : (left_of es e ≡ right_of es e → ⊥) → far_end es (right_of es e) e ≡ left_of es e
  unfolding far_end pick
  far_right h = rw (ne_eqb (left_of es e) (right_of es e) h)

  module _ (v : ℕ) where
    touching_more : touches es v e ≡ true → touching es (e + 1) v ≡ touching es e v ++ e ∷ []
    unfolding touching
    touching_more h = rw (add-one e) (indices_more (touches es v) e h)

    touching_same : touches es v e ≡ false → touching es (e + 1) v ≡ touching es e v
    unfolding touching
    touching_same h = rw (add-one e) (indices_skip (touches es v) e h)

    size_more : touches es v e ≡ true → length (touching es (e + 1) v) ≡ length (touching es e v) + 1
    size_more h = rw (touching_more h) (length-append (touching es e v) (e ∷ []))

    place_new : touches es v e ≡ true → length (touching es e v) < 16 → place_at es (e + 1) (v * 16 + length (touching es e v)) ≡ place_word es v e
    unfolding place_at
    place_new h l =
        let q : (v * 16 + length (touching es e v)) / 16 ≡ v = omega arith in
        let m : (v * 16 + length (touching es e v)) % 16 ≡ length (touching es e v) = omega arith in
        rw (q, m, touching_more h) (map_end (place_word es v) e 0 (touching es e v))

  place_kept : (p : ℕ) (b : Bool) → touches es (p / 16) e ≡ b → (b ≡ true → p % 16 ≡ length (touching es e (p / 16)) → ⊥) → place_at es e p ≡ place_at es (e + 1) p
  unfolding place_at
  place_kept p true h other = rw (touching_more (p / 16) h) (map_rest (place_word es (p / 16)) e 0 (touching es e (p / 16)) (p % 16) (other refl))
  place_kept p false h other = rw (touching_same (p / 16) h)

  -- both ends' next places are taken, each by the edge with the other end
  module _ (apart : left_of es e ≡ right_of es e → ⊥) where
    abbrev left : ℕ
    left = left_of es e

    abbrev right : ℕ
    right = right_of es e

    abbrev size : ℕ → ℕ
    size v = length (touching es e v)

    -- the place p is v's next
    next : (p v : ℕ) → p / 16 ≡ v → p % 16 ≡ size (p / 16) → p ≡ v * 16 + size v
    next p v z m = let w : p % 16 ≡ size v = m ∙ ap size z in omega arith

    pub more_degrees : set (set (degrees_of es e) left (size left + 1)) right (size right + 1) ≡ degrees_of es (e + 1)
    unfolding degrees_of
    more_degrees =
        set_two (λ v. length (touching es e v)) (λ v. length (touching es (e + 1) v)) 256 left right (size left + 1) (size right + 1)
        (size_more left (touches_left es e)) (size_more right (touches_right es e)) (λ v p q. ap length (sym (touching_same v (touches_other v p q))))

    module _ (l : size left < 16) (r : size right < 16) where
      kept : (p : ℕ) → (p ≡ left * 16 + size left → ⊥) → (p ≡ right * 16 + size right → ⊥) → touches es (p / 16) e ≡ true → p % 16 ≡ size (p / 16) → ⊥
      kept p x y h m =
          let f : touches es (p / 16) e ≡ false = touches_other (p / 16) (λ z. x (next p left z m)) (λ z. y (next p right z m)) in
          let o : ◌≡◌ {A = ℕ} 0 1 = cc in
          omega arith

      pub more_places : set (set (places_of es e) (left * 16 + size left) (e + right * 1_024)) (right * 16 + size right) (e + left * 1_024) ≡ places_of es (e + 1)
      unfolding places_of place_word
      more_places =
          set_two (place_at es e) (place_at es (e + 1)) 4_096 (left * 16 + size left) (right * 16 + size right) (e + right * 1_024) (e + left * 1_024)
          (place_new left (touches_left es e) l ∙ ap (λ (v : ℕ). e + v * 1_024) far_left)
          (place_new right (touches_right es e) r ∙ ap (λ (v : ℕ). e + v * 1_024) (far_right apart))
          (λ p x y. place_kept p (touches es (p / 16) e) refl (λ h m. kept p x y h m))
