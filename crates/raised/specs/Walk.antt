-- A loop over the raised flags' numbers: those that it has met and those that are left are all of them.
use Rattle.std.specs.Prelude.{ℕ, ◌<◌, ◌≡◌, List, [], ◌∷◌, ◌++◌, length}
use Rattle.std.proofs.Common.{sym, ◌∙◌, append_assoc, append-nil, length-append, arith}

module _ (met left all : List ℕ) (whole : met ++ left ≡ all) where
  module _ {n : ℕ} {rest : List ℕ} (next : left ≡ n ∷ rest) where
    pub one_met : (met ++ n ∷ []) ++ rest ≡ all
    one_met = rw (append_assoc, ← next) whole

    pub fewer_met : length met < length all
    fewer_met = rw (← whole, next, length-append) (omega arith)

  pub all_met : left ≡ [] → met ≡ all
  all_met none = sym (append-nil met) ∙ rw (← none) whole
