-- A chunk by its first record: it is cut short, or it acts and the chunk of the bytes behind it follows.
use Prim.Native.Nat.{ℕ, ◌-◌, ◌<◌}
use mathlib.Core.Path.{◌≡◌, refl}
use mathlib.Core.List.{List, [], ◌∷◌, ◌++◌}
use lib.Dec.{leb}
use lib.ListN.{length}
use Rattle.laws.specs.Choice.{pick}
use Rattle.records.specs.Records.{Record, bytes, split, Fits}
use Rattle.records.specs.Chunks.{Acted, stopped, followed, runs, chunk}
use Rattle.records.specs.declared.Stop.TheVariants.{WantsBytes, WantsRoom, Ended}
use Rattle.records.proofs.Splitting.{split_none, split_cut, split_record}

module _ {S : Type 0} (act : S → Record → Acted S) (behind : ℕ → ℕ) (longest : ℕ) (s : S) (room : ℕ) where
  pub chunk_none : chunk act behind longest s room [] ≡ stopped WantsBytes s
  unfolding chunk runs
  chunk_none = rw (split_none behind)

  pub chunk_cut : (k : ℕ) (bs : List ℕ) → length bs < behind k → chunk act behind longest s room (k ∷ bs) ≡ stopped WantsBytes s
  unfolding chunk runs
  chunk_cut k bs h = rw (split_cut behind k bs h)

  pub chunk_record : (r : Record) (rest : List ℕ) → Fits behind r → let one = act s r in
      chunk act behind longest s room (bytes r ++ rest)
      ≡ pick (leb longest room)
      (followed r one.text (pick one.ended (stopped Ended one.state) (chunk act behind longest one.state (room - length one.text) rest)))
      (stopped WantsRoom s)
  unfolding chunk runs
  chunk_record r rest fits = rw (split_record behind r rest fits)

-- records that act alike make the same chunk
module _ {S : Type 0} (act other : S → Record → Acted S) (same : (s : S) (r : Record) → act s r ≡ other s r) (longest : ℕ) where
  runs_same : (rs : List Record) (s : S) (room : ℕ) → runs act longest s room rs ≡ runs other longest s room rs
  unfolding runs
  runs_same [] s room = refl
  runs_same (r ∷ rs) s room = rw (same s r, runs_same rs (other s r).state (room - length (other s r).text))

  pub chunk_same : (behind : ℕ → ℕ) (s : S) (room : ℕ) (bs : List ℕ) → chunk act behind longest s room bs ≡ chunk other behind longest s room bs
  unfolding chunk
  chunk_same behind s room bs = runs_same (split behind bs).whole s room
