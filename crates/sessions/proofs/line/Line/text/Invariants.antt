-- The line stays that of the same buffer.
use Rattle.std.proofs.Common.{◌≡◌}
use Rattle.sessions.proofs.line.Line.text.Given as goal

abbrev pub invariant-loop-byte : goal.invariant-loop-byte
invariant-loop-byte l = l.self.bytes.ghost_name ≡ l.initial.self.bytes.ghost_name
