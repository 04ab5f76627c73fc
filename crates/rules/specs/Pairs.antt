-- "Pairs are the stalled edges of the last completed instruction, by index"
use Rattle.std.specs.Prelude.{ℕ, suc, Bool, true, false, List, [], ◌∷◌, ◌++◌, leb, length, drop}
use Rattle.laws.specs.Choice.{pick}
use Rattle.rules.specs.declared.state.State.{State}
use Rattle.rules.specs.Types.{Listed}
use Rattle.std.specs.Prelude.{Err, Ok}
use Rattle.rules.specs.declared.refusal.Refusal.TheVariants.{ListTooLong}

-- the indices of the raised flags, the first flag's index being i
abbrev pub raised_from : ℕ → List Bool → List ℕ
raised_from i [] = []
raised_from i (true ∷ flags) = i ∷ raised_from (suc i) flags
raised_from i (false ∷ flags) = raised_from (suc i) flags

unfoldable pub pairs : State → List ℕ
pairs s = raised_from 0 s.stalled

-- "19: pair list longer than the buffer lent; buffer and decoder unchanged". A listing "writes edge numbers into a u16 buffer from its start,
-- gives their number and touches no other place"
unfoldable pub listed : State → ℕ → Listed
listed s room = pick (leb (length (pairs s)) room) (Ok (length (pairs s))) (Err ListTooLong)

unfoldable pub buffered : State → List ℕ → List ℕ
buffered s buffer = pick (leb (length (pairs s)) (length buffer)) (pairs s ++ drop (length (pairs s)) buffer) buffer
