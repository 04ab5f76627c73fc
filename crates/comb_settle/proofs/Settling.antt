-- One vertex, over variables: w is its word after stage 3, p its peer. A fresh one that nobody leads stays as it is and shows so; a fresh virtual
-- one stays too, and whom it follows plays no part; a grown one stays and shows so, unless it is virtual or stalled.
use Rattle.std.proofs.Common.{ℕ, zero, suc, ◌+◌, ◌*◌, ◌<◌, ◌/◌, ◌%◌, ◌≡◌, refl, sym, ap, ◌∙◌, Bool, true, false, not, ◌&&◌, List, arith, eqb, get_or, eqb-true, ltb-true, None}
use Rattle.std.proofs.lemmas.Bool.{not-true, and_parts}
use Rattle.laws.specs.Choice.{◌and◌, pick, and_left, and_right}
use Rattle.laws.specs.Tests.{not_second}
use Rattle.laws.specs.Fold.{bit}
use Rattle.rules.specs.Graph.{has_layer}
use Rattle.rules.specs.Numbers.{speed_code}
use Rattle.rules.specs.Registers.{at, view, keep, speed_of, fresh}
use Rattle.rules.proofs.Round.{round}
use Rattle.rules.specs.Execute.{waits}
use Rattle.rules.specs.Update.{is_loose, update}
use Rattle.rules.specs.Shadow.{yielded, shadow}
use Rattle.rules.specs.declared.registers.VertexRegisters.{VertexRegisters}
use Rattle.rules.specs.Types.{PropagatingPeer}
use Rattle.comb_vertex.specs.Led.{peer_at}
use Rattle.comb_settle.specs.Marked.{Marks}
use Rattle.comb_settle.specs.Settled.{kept, updated_word, seen_by, shadow_word}

-- a fresh word shows the fresh registers
pub fresh_seen : (b : Bool) → view (keep (fresh b)) ≡ fresh b
unfolding fresh
fresh_seen true = round (fresh true) (record { grown = omega arith; node = omega arith; root = omega arith })
fresh_seen false = round (fresh false) (record { grown = omega arith; node = omega arith; root = omega arith })

-- ---- a word that registers keep is kept

code_back : (c : ℕ) → c < 3 → speed_code (speed_of c) ≡ c
unfolding speed_of pick
code_back zero l = refl
code_back (suc zero) l = refl
code_back (suc (suc zero)) l = refl
code_back (suc (suc (suc c))) l = absurd (omega arith)

bit_back : (b : ℕ) → b < 2 → bit (eqb b 1) ≡ b
bit_back zero l = refl
bit_back (suc zero) l = refl
bit_back (suc (suc b)) l = absurd (omega arith)

-- each register is what remains of the bits above it
piled : (w g q n r t s c v d f : ℕ) → w ≡ g + q * 67_108_864 → q ≡ n + r * 65_536 → r ≡ t + s * 65_536 → s ≡ c + v * 4 → v ≡ d + f * 2
    → g + n * 67_108_864 + t * 4_398_046_511_104 + c * 288_230_376_151_711_744 + d * 1_152_921_504_606_846_976 + f * 2_305_843_009_213_693_952 ≡ w
piled w g q n r t s c v d f h i j k l = omega arith

module _ (w : ℕ) (small : w < 4_611_686_018_427_387_904) where
  grown_on : w ≡ w % 67_108_864 % 67_108_864 + w / 67_108_864 * 67_108_864
  grown_on = omega arith

  node_on : w / 67_108_864 ≡ w / 67_108_864 % 65_536 + w / 4_398_046_511_104 * 65_536
  node_on = omega arith

  root_on : w / 4_398_046_511_104 ≡ w / 4_398_046_511_104 % 65_536 + w / 288_230_376_151_711_744 * 65_536
  root_on = omega arith

  speed_on : w / 288_230_376_151_711_744 ≡ w / 288_230_376_151_711_744 % 4 + w / 1_152_921_504_606_846_976 * 4
  speed_on = omega arith

  virtual_on : w / 1_152_921_504_606_846_976 ≡ w / 1_152_921_504_606_846_976 % 2 + w / 2_305_843_009_213_693_952 % 2 * 2
  virtual_on = omega arith

  keeps : w / 288_230_376_151_711_744 % 4 < 3 → keep (view w) ≡ w
  unfolding keep view
  keeps c =
      rw (code_back (w / 288_230_376_151_711_744 % 4) c, bit_back (w / 1_152_921_504_606_846_976 % 2) (omega arith), bit_back (w / 2_305_843_009_213_693_952 % 2) (omega arith))
      (piled w _ _ _ _ _ _ _ _ _ _ grown_on node_on root_on speed_on virtual_on)

keeps_kept : (w : ℕ) → kept w ≡ true → keep (view w) ≡ w
unfolding kept
keeps_kept w h = let both = and_parts _ _ h in keeps w (ltb-true _ _ both.0) (ltb-true _ _ both.1)

pub free_word : (w : ℕ) (unmarked : Bool) {b : Bool} → b ≡ (eqb w (keep (fresh false)) and unmarked) → b ≡ true → w ≡ keep (fresh false)
free_word w unmarked free t = eqb-true w (keep (fresh false)) (and_left _ unmarked (sym free ∙ t))

module _ (es fs xs ps ds : List ℕ) (v : ℕ) where
  fresh_at : (w : ℕ) (b : Bool) → w ≡ get_or xs v 0 → eqb w (keep (fresh b)) ≡ true → at xs v ≡ fresh b
  unfolding at
  fresh_at w b i t = ap view (sym i ∙ eqb-true w (keep (fresh b)) t) ∙ fresh_seen b

  -- ---- fresh, and led by nobody

  free_same : (waiting stalled : Bool) → shadow None waiting stalled (fresh false) ≡ fresh false
  unfolding shadow yielded pick ◌and◌ fresh
  free_same true true = refl
  free_same true false = refl
  free_same false true = refl
  free_same false false = refl

  free_stays : update None (fresh false) ≡ fresh false
  unfolding update is_loose pick ◌and◌ fresh
  free_stays = refl

  module _ (w : ℕ) (i : w ≡ get_or xs v 0) (marks : List Bool) (m : Marks es fs xs ps ds marks) (u : v < 256) (b : Bool)
      (free : b ≡ (eqb w (keep (fresh false)) and not (get_or marks v false))) (t : b ≡ true) where
    is_fresh : at xs v ≡ fresh false
    is_fresh = fresh_at w false i (and_left _ _ (sym free ∙ t))

    is_word : w ≡ keep (fresh false)
    is_word = free_word w _ free t

    unled : peer_at es fs xs ps ds v ≡ None
    unled = m.unled v u (not-true _ (and_right _ _ (sym free ∙ t)))

    pub free_updates : w ≡ updated_word es fs xs ps ds v
    unfolding updated_word
    free_updates = rw (is_fresh, unled, free_stays) is_word

    pub free_shows : (vs : List ℕ) (stalled : List Bool) → w ≡ shadow_word vs es fs xs ps ds stalled v
    unfolding shadow_word seen_by
    free_shows vs stalled = rw (is_fresh, unled, free_stays, free_same (waits vs v (fresh false)) (get_or stalled v false)) is_word

  -- ---- fresh and virtual

  virtual_stays : (p : PropagatingPeer) → update p (fresh true) ≡ fresh true
  unfolding update is_loose pick ◌and◌ fresh
  virtual_stays p = refl

  virtual_same : (p : PropagatingPeer) (waiting stalled : Bool) → shadow p waiting stalled (fresh true) ≡ shadow None waiting stalled (fresh true)
  unfolding shadow yielded pick ◌and◌ fresh
  virtual_same p waiting stalled = refl

  module _ (w : ℕ) (i : w ≡ get_or xs v 0) (b : Bool) (same : b ≡ eqb w (keep (fresh true))) (t : b ≡ true) where
    pub virtual_updates : w ≡ updated_word es fs xs ps ds v
    unfolding updated_word
    virtual_updates =
        rw (fresh_at w true i (sym same ∙ t), virtual_stays (peer_at es fs xs ps ds v)) (eqb-true w (keep (fresh true)) (sym same ∙ t))

    pub virtual_shows : (vs : List ℕ) (stalled : List Bool) (x : VertexRegisters) (z : ℕ) → z ≡ seen_by vs stalled v None x → x ≡ fresh true
        → z ≡ shadow_word vs es fs xs ps ds stalled v
    unfolding shadow_word seen_by
    virtual_shows vs stalled x z k q =
        rw (fresh_at w true i (sym same ∙ t), virtual_stays (peer_at es fs xs ps ds v), virtual_same (peer_at es fs xs ps ds v)) (rw q at k)

  -- ---- grown, neither virtual nor stalled

  module _ (w : ℕ) (i : w ≡ get_or xs v 0) (stalled : Bool) (b : Bool)
      (firm : b ≡ (((kept w && not (eqb (view w).grown 0)) && not (view w).is_virtual) && not stalled)) (t : b ≡ true) where
    all_four : (((kept w && not (eqb (view w).grown 0)) && not (view w).is_virtual) ≡ true) × (not stalled ≡ true)
    all_four = and_parts _ _ (sym firm ∙ t)

    first_three : ((kept w && not (eqb (view w).grown 0)) ≡ true) × (not (view w).is_virtual ≡ true)
    first_three = and_parts _ _ all_four.0

    first_two : (kept w ≡ true) × (not (eqb (view w).grown 0) ≡ true)
    first_two = and_parts _ _ first_three.0

    word_keeps : keep (view w) ≡ w
    word_keeps = keeps_kept w first_two.0

    grown_some : eqb (view w).grown 0 ≡ false
    grown_some = not-true _ first_two.1

    not_virtual : (view w).is_virtual ≡ false
    not_virtual = not-true _ first_three.1

    not_stalled : stalled ≡ false
    not_stalled = not-true _ all_four.1

    firm_stays : (p : PropagatingPeer) → update p (view w) ≡ view w
    unfolding update is_loose pick
    firm_stays p = rw (grown_some, not_second _ false refl)

    firm_same : (p : PropagatingPeer) (vs : List ℕ) → shadow p (waits vs v (view w)) stalled (view w) ≡ view w
    unfolding shadow yielded waits pick
    firm_same p vs = rw (not_virtual, not_stalled, grown_some, not_second (has_layer vs v) false refl, not_second _ false refl)

    pub firm_updates : w ≡ updated_word es fs xs ps ds v
    unfolding updated_word at
    firm_updates = rw (← i, firm_stays (peer_at es fs xs ps ds v)) (sym word_keeps)

    pub firm_shows : (vs : List ℕ) (flags : List Bool) → stalled ≡ get_or flags v false → w ≡ shadow_word vs es fs xs ps ds flags v
    unfolding shadow_word seen_by at
    firm_shows vs flags f =
        rw (← i, ← f, firm_stays (peer_at es fs xs ps ds v), firm_same (peer_at es fs xs ps ds v) vs) (sym word_keeps)

  -- ---- any other, by its peer p

  module _ (w : ℕ) (p : PropagatingPeer) (i : w ≡ get_or xs v 0) (l : p ≡ peer_at es fs xs ps ds v) where
    pub updates : (z : ℕ) → z ≡ keep (update p (view w)) → z ≡ updated_word es fs xs ps ds v
    unfolding updated_word at
    updates z k = rw (k, l, i)

    pub shows : (vs : List ℕ) (stalled : List Bool) (z : ℕ) → z ≡ seen_by vs stalled v p (update p (view w)) → z ≡ shadow_word vs es fs xs ps ds stalled v
    unfolding shadow_word at
    shows vs stalled z k = rw (k, l, i)

pub ruleset settling = (virtual_updates, virtual_shows, firm_updates, firm_shows, updates, shows)
