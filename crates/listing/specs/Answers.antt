-- What a record is answered, as text.
use Rattle.std.specs.Prelude.{ℕ, Bool, List}
use Rattle.rules.specs.Run.{carried, found}
use Rattle.rules.specs.Listing.{refusal_text, reply_text}
use Rattle.rules.specs.declared.refusal.Refusal.TheVariants.{SessionRecord}
use Rattle.records.specs.declared.Answered.{Answered}
use Rattle.records.specs.declared.Answered.TheVariants.{Word, Search, Pairs, Unknown}
use Rattle.listing.specs.Pairs.{pairs_text}

-- where these edges are stalled
unfoldable pub answer_text : List Bool → Answered → List ℕ
answer_text stalled (Word a) = reply_text (carried a)
answer_text stalled (Search a left) = reply_text (found a left)
answer_text stalled Pairs = pairs_text stalled
answer_text stalled Unknown = refusal_text SessionRecord
