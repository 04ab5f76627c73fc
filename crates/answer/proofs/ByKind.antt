-- Each kind of record makes its call of `record_call`, and another kind none.
use Rattle.std.specs.Prelude.{ℕ, zero, suc, ◌≡◌, List, Ok, Err}
use Rattle.std.proofs.Common.{refl, ap}
use Rattle.std.proofs.Math.Option.{none}
use Rattle.rules.specs.Pairs.{pairs, listed}
use Rattle.rules.specs.Instruct.{word_run}
use Rattle.rules.specs.Search.{search_on, search_to}
use Rattle.rules.specs.Run.{of_list, call}
use Rattle.rules.specs.Listing.{record_call}
use Rattle.rules.specs.declared.graph.Graph.{Graph}
use Rattle.rules.specs.declared.state.State.{State}
use Rattle.rules.specs.declared.state.Searched.{Searched}
use Rattle.rules.specs.declared.state.WordCycle.{WordCycle}
use Rattle.rules.specs.Types.{Listed}
use Rattle.records.specs.Answered.{Answer, answer_of, answered_by, answer}
use Rattle.records.specs.declared.Answered.{Answered}
use Rattle.records.specs.declared.Answered.TheVariants.{Word, Search, Pairs, Unknown}

other_kind : (k value : ℕ) → (k ≡ 0 → ⊥) → (k ≡ 1 → ⊥) → (k ≡ 2 → ⊥) → (k ≡ 3 → ⊥) → record_call k value ≡ none
unfolding record_call
other_kind zero value a b c d = absurd (a refl)
other_kind (suc zero) value a b c d = absurd (b refl)
other_kind (suc (suc zero)) value a b c d = absurd (c refl)
other_kind (suc (suc (suc zero))) value a b c d = absurd (d refl)
other_kind (suc (suc (suc (suc k)))) value a b c d = refl

module _ (g : Graph) (s : State) (kind value : ℕ) where
  abbrev of_search : Searched → Answer
  of_search c = record { state = c.state; answered = Search c.answer c.state.maximum }

  pub of_word : kind ≡ 0 → (c : WordCycle) → c ≡ word_run g s value → record { state = c.state; answered = Word c.answer } ≡ answer g s kind value
  unfolding answer answered_by record_call call
  of_word k c e = rw (k, e)

  pub of_search_to : kind ≡ 1 → (c : Searched) → c ≡ search_to g s value → of_search c ≡ answer g s kind value
  unfolding answer answered_by record_call call
  of_search_to k c e = rw (k, e)

  pub of_search_on : kind ≡ 2 → (c : Searched) → c ≡ search_on g s → of_search c ≡ answer g s kind value
  unfolding answer answered_by record_call call
  of_search_on k c e = rw (k, e)

  listed_pairs : (n : Listed) (es : List ℕ) → Pairs ≡ answer_of (of_list n es)
  listed_pairs (Ok n) es = refl
  listed_pairs (Err r) es = refl

  pub of_pairs : kind ≡ 3 → record { state = s; answered = Pairs } ≡ answer g s kind value
  unfolding answer answered_by record_call call
  of_pairs k = rw k (ap (λ (a : Answered). record { state = s; answered = a }) (listed_pairs (listed s 1_024) (pairs s)))

  pub of_other : (kind ≡ 0 → ⊥) → (kind ≡ 1 → ⊥) → (kind ≡ 2 → ⊥) → (kind ≡ 3 → ⊥) → record { state = s; answered = Unknown } ≡ answer g s kind value
  unfolding answer answered_by
  of_other a b c d = rw (other_kind kind value a b c d)

pub ruleset kinds = (of_word, of_search_to, of_search_on, of_pairs, of_other)
