-- The walk stops at the first kind that the word has, and what it asks is the answer.
use Rattle.laws.specs.First.{first}
use Rattle.rules.specs.Words.{kind_in}
use Rattle.std.proofs.Common.{◌≡◌}
use Rattle.std.proofs.Math.Option.{none}
use Rattle.instruction.proofs.reading.unpack.Given as goal

abbrev pub invariant-loop-kind : goal.invariant-loop-kind
invariant-loop-kind l = first l.kind-index (kind_in l.word) ≡ none
