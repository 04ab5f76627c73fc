-- The units of an accepted image: each list that the loops have reached is short, and the last one is the definition's.
use Rattle.std.proofs.Common.{◌≡◌, ℕ, ◌+◌, ◌≤◌, true, false, List, [], length, arith, length-append}
use Rattle.std.proofs.lemmas.List.{length-map}
use Rattle.std.proofs.Math.Option.{none}
use Rattle.laws.specs.Appended.{extended}
use Rattle.laws.specs.Choice.{pick}
use Rattle.laws.specs.Table.{table, length_table}
use Rattle.rules.specs.Image.{vertex_count, edge_count, unit_count, image_refusal, offloading, unit_word, is_conditioned, unit_words}
use Rattle.image_refusal.specs.Accepted.{vertices_fit, edges_fit, units_fit, head_passes}
use Rattle.image.specs.Units.{words_to}
use Rattle.image.proofs.Lists.{table_none, table_more, none_passed, one_passed, one_failed, length_indices}

module _ (bs : List ℕ) where
  pub few_vertices : image_refusal bs ≡ none → vertex_count bs ≤ 256
  few_vertices h = vertices_fit bs (head_passes bs h)

  pub few_edges : image_refusal bs ≡ none → edge_count bs ≤ 1_024
  few_edges h = edges_fit bs (head_passes bs h)

  pub few_units : image_refusal bs ≡ none → unit_count bs ≤ 1_024
  few_units h = units_fit bs (head_passes bs h)

  pub listed : (n : ℕ) → length (table n (unit_word bs)) ≡ n
  listed n = length_table (unit_word bs) n

  pub short : (n e : ℕ) → length (words_to bs n e) ≤ n + e
  unfolding extended
  short n e = rw (length-append, length_table, length-map) (omega (arith, length_indices (is_conditioned bs) e))

  pub units_on_lem : offloading bs ≡ true → unit_words bs ≡ words_to bs (unit_count bs) (edge_count bs)
  unfolding unit_words extended pick
  units_on_lem h = rw h

  pub units_off : offloading bs ≡ false → unit_words bs ≡ []
  unfolding unit_words pick
  units_off h = rw h

pub ruleset few = (few_vertices, few_edges, few_units)

pub ruleset unit_steps = (few, listed, short, units_on_lem, units_off, table_none, table_more, none_passed, one_passed, one_failed)
