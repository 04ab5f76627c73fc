-- What calls and stages answer, by names of their own.
use Rattle.std.specs.Prelude.{ℕ, Option, Result}
use Rattle.rules.specs.declared.index.NodeIndex.{NodeIndex}
use Rattle.rules.specs.declared.instruction.Asked.{Asked}
use Rattle.rules.specs.declared.registers.VertexRegisters.{VertexRegisters}
use Rattle.rules.specs.declared.registers.MoveError.{MoveError}
use Rattle.rules.specs.declared.registers.Lead.{Lead}
use Rattle.rules.specs.declared.finding.Finding.{Finding}
use Rattle.rules.specs.declared.finding.OddRemaining.{OddRemaining}
use Rattle.rules.specs.declared.finding.Carried.{Carried}
use Rattle.rules.specs.declared.graph.Accepted.{Accepted}
use Rattle.rules.specs.declared.refusal.Refusal.{Refusal}

-- a node or a touch as a finding shows it, none where it is absent
abbrev pub Node : Type 0
Node = Option NodeIndex

-- what a word asks
abbrev pub Unpacked : Type 0
Unpacked = Result Asked Refusal

abbrev pub Packed : Type 0
Packed = Result ℕ Refusal

-- what stage 3 makes of one vertex: its new registers, or why it does not move
abbrev pub Executed : Type 0
Executed = Result VertexRegisters MoveError

-- what stage 4 finds for one vertex
abbrev pub PropagatingPeer : Type 0
PropagatingPeer = Option Lead

-- what one edge reports in stage 7
abbrev pub Response : Type 0
Response = Result Finding OddRemaining

abbrev pub odd_remaining : OddRemaining
odd_remaining = record {}

-- what an instruction is answered, and what a word is
abbrev pub Answer : Type 0
Answer = Result Finding Refusal

abbrev pub WordAnswer : Type 0
WordAnswer = Result Carried Refusal

-- the number of pairs
abbrev pub Listed : Type 0
Listed = Result ℕ Refusal

abbrev pub Opening : Type 0
Opening = Result Accepted Refusal
