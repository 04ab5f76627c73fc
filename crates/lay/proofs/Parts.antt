-- Parts of a list after a store, and after a slice of it is written.
use Rattle.std.proofs.Common.{ℕ, ◌+◌, ◌-◌, ◌≤◌, ◌<◌, ◌≡◌, sym, ◌∙◌, List, ◌++◌, arith, length, get_or, set, take, drop, get_or-set_same, get_or-set_other, ext_get_or}
use Rattle.std.proofs.lemmas.List.{places}
use Rattle.std.proofs.lemmas.Slice.{between-put_mid}
use Rattle.laws.specs.Stored.{set_table}
use Rattle.laws.specs.Table.{table, length_table, get_or_table}
use Rattle.board.specs.Board.{entry_at, part, slice_part}

table_same : (f g : ℕ → ℕ) (n : ℕ) → ((i : ℕ) → i < n → f i ≡ g i) → table n f ≡ table n g
table_same f g n h =
    ext_get_or 0 (table n f) (table n g) (length_table f n ∙ sym (length_table g n))
    (λ i l. let m : i < n = rw (length_table f n) at l in get_or_table f n i 0 m ∙ h i m ∙ sym (get_or_table g n i 0 m))

pub part_same : (n k : ℕ) (b r : List ℕ) → ((i : ℕ) → i < n → get_or r (i + k) 0 ≡ get_or b (i + k) 0) → part n k r ≡ part n k b
unfolding part
part_same n k b r h = table_same (entry_at k r) (entry_at k b) n h

-- ---- one store

module _ (n k : ℕ) (b : List ℕ) where
  pub store_in : (i x : ℕ) → i < n → n + k ≤ length b → part n k (set b (i + k) x) ≡ set (part n k b) i x
  unfolding part
  store_in i x l h =
      sym
      (set_table (entry_at k b) (entry_at k (set b (i + k) x)) n i x (get_or-set_same b (i + k) x 0 (omega arith))
      (λ j m. sym (get_or-set_other b (i + k) (j + k) x 0 (λ e. m (omega arith)))))

  pub store_out : (j x : ℕ) → (k ≤ j → j < n + k → ⊥) → part n k (set b j x) ≡ part n k b
  store_out j x h = part_same n k b (set b j x) (λ i l. get_or-set_other b j (i + k) x 0 (λ e. h (omega arith) (omega arith)))

-- ---- ys in the place of the n entries from k on, as a slice that is written leaves it

abbrev pub over : ℕ → ℕ → List ℕ → List ℕ → List ℕ
over k n b ys = take k b ++ (ys ++ drop n (drop k b))

module _ (k n : ℕ) (b ys : List ℕ) (long : length ys ≡ n) (room : n + k ≤ length b) where
  pub length_over : length (over k n b ys) ≡ length b
  length_over = grind (arith, places)

  pub over_other : (j : ℕ) → (k ≤ j → j < n + k → ⊥) → get_or (over k n b ys) j 0 ≡ get_or b j 0
  over_other j h = grind (arith, places)

  pub over_in : part n k (over k n b ys) ≡ ys
  over_in =
      let end : k + n - k ≡ n = omega arith in
      sym (slice_part n k (over k n b ys) (rw length_over room)) ∙ rw end at (between-put_mid k n b ys (k + n) (omega arith) (omega arith))

  pub over_out : (m l : ℕ) → ((i : ℕ) → i < m → k ≤ i + l → i + l < n + k → ⊥) → part m l (over k n b ys) ≡ part m l b
  over_out m l h = part_same m l b (over k n b ys) (λ i u. over_other (i + l) (h i u))
