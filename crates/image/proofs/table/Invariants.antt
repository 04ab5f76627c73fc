-- Each index before k has its word, and from k on the table is blank.
use Rattle.std.proofs.Common.{◌≡◌, ℕ, ◌<◌, ◌≤◌, get_or, length}
use Rattle.image.proofs.table.Given as goal

abbrev pub invariant-loop-k : goal.invariant-loop-k
invariant-loop-k g l = record {
  long : length l.words ≡ g.row.N;
  each : (j : ℕ) → j < l.k → goal.F-post g l.word j (get_or l.words j 0);
  rest : (j : ℕ) → l.k ≤ j → get_or l.words j 0 ≡ 0;
}
