-- The units' words, with the FusionMatches of the edges before e behind the listed units.
use Rattle.std.specs.Prelude.{ℕ, List}
use Rattle.laws.specs.Appended.{extended}
use Rattle.laws.specs.Table.{table}
use Rattle.rules.specs.Image.{unit_word, fusion_word, is_conditioned}

abbrev pub words_to : List ℕ → ℕ → ℕ → List ℕ
words_to bs u e = extended (table u (unit_word bs)) (fusion_word bs) (is_conditioned bs) e
