-- The definitions' tests in the code's words: its operators, and the three letters as one prefix.
use Rattle.laws.specs.Choice.{◌and◌}
use Rattle.laws.specs.Connectives.{or_is}
use Rattle.rules.specs.Image.{byte_at, u16_at, fusion, offloading, is_an_image}
use Rattle.std.proofs.Common.{◌≡◌, ℕ, ◌&&◌, ◌||◌, List, [], ◌∷◌, eqb, leb, length, arith, refl}
use Rattle.std.proofs.lemmas.Bool.Decides.{nat_tests}
use Rattle.std.specs.List.{starts_with}

pub fusion_tests : (bs : List ℕ) → fusion bs ≡ (eqb (byte_at bs 5) 1 || eqb (byte_at bs 5) 3)
unfolding fusion
fusion_tests bs = simp or_is

pub offloading_tests : (bs : List ℕ) → offloading bs ≡ (eqb (byte_at bs 5) 2 || eqb (byte_at bs 5) 3)
unfolding offloading
offloading_tests bs = simp or_is

pub image_tests : (bs : List ℕ) → is_an_image bs
    ≡ (leb 12 (length bs) && starts_with eqb bs (68 ∷ 67 ∷ 84 ∷ []) && eqb (u16_at bs 3) 1 && leb (byte_at bs 5) 3)
unfolding is_an_image byte_at ◌and◌
image_tests [] = refl
image_tests (a ∷ []) = refl
image_tests (a ∷ b ∷ []) = refl
image_tests (a ∷ b ∷ c ∷ bs) = grind (arith, nat_tests)
