-- Each arm puts its case of `answer_text`.
use Rattle.std.proofs.Common.{arith}
use Rattle.listing.specs.Answers.{answer_text}
use Rattle.listing.proofs.Puts.{widened}
use Rattle.listing.proofs.line.Line.put_answer.Goals as goal

pub returns-in-Word : goal.returns-in-Word
unfolding answer_text
returns-in-Word c = rw c.in-Word.is (widened c.put_word.ensures (omega arith))

pub returns-in-Search : goal.returns-in-Search
unfolding answer_text
returns-in-Search c = rw c.in-Search.is (widened c.put_search.ensures (omega arith))

pub returns-in-Pairs : goal.returns-in-Pairs
unfolding answer_text
returns-in-Pairs c = rw c.in-Pairs.is c.put_pairs.ensures

pub returns-in-Unknown : goal.returns-in-Unknown
unfolding answer_text
returns-in-Unknown c = rw c.in-Unknown.is (widened c.put_refusal.ensures (omega arith))
