-- A text that stands in a buffer from a position on, and what holds of texts placed one after the other.
use Rattle.std.specs.Prelude.{ℕ, suc, ◌+◌, ◌≤◌, ◌<◌, ◌≡◌, refl, List, [], ◌∷◌, ◌++◌, length, take, drop, set}
use Rattle.std.proofs.Common.{sym, ap, ◌∙◌, append_assoc, append-nil, add-zero, add_assoc, add-one, arith, length-append, length-take, length-drop, take-append-drop, length-take-le, take_at, drop_at, drop-drop}
use Rattle.std.proofs.lemmas.List.{set_split, take-set-le}
use Rattle.std.proofs.Math.Seq.{append_snoc}

unfoldable pub placed : ℕ → List ℕ → List ℕ → List ℕ
placed at text out = take at out ++ text ++ drop (at + length text) out

-- a writer's work: the text in its place, inside the buffer, and the position after it
pub record Wrote (text : List ℕ) (at : ℕ) (before : List ℕ) (next : ℕ) (after : List ℕ) : Type 0 where
  pub end : next ≡ at + length text
  pub inside : next ≤ length before
  pub bytes : after ≡ placed at text before

pub placed_none : (at : ℕ) (out : List ℕ) → placed at [] out ≡ out
unfolding placed
placed_none at out = rw (add-zero, append-nil) (take-append-drop at out)

pub placed_one : (at b : ℕ) (out : List ℕ) → at < length out → set out at b ≡ placed at (b ∷ []) out
unfolding placed
placed_one at b out h = rw (set_split out at b h, add-one, append_snoc)

pub length_placed : (at : ℕ) (text out : List ℕ) → at + length text ≤ length out → length (placed at text out) ≡ length out
unfolding placed
length_placed at text out h = simp (length-append, length-take, length-drop) (omega arith)

head_length : (at : ℕ) (text out : List ℕ) → at ≤ length out → length (take at out ++ text) ≡ at + length text
head_length at text out h = rw (length-append, length-take-le at out h)

-- b placed after a is the two placed together
pub placed_then : (at : ℕ) (a b out : List ℕ) → at ≤ length out → placed (at + length a) b (placed at a out) ≡ placed at (a ++ b) out
unfolding placed
placed_then at a b out h =
    let n = at + length a in
    let x = take at out ++ a in
    let d = drop n out in
    let e = head_length at a out h in
    rw (take_at x d n e, ← drop-drop (length b) n (x ++ d), drop_at x d n e, drop-drop, length-append, ← add_assoc, ← append_assoc)

-- a text's last byte may be stored first
pub placed_last : (at b : ℕ) (a out : List ℕ) → at + length a < length out → placed at a (set out (at + length a) b) ≡ placed at (a ++ (b ∷ [])) out
unfolding placed
placed_last at b a out h =
    let n = at + length a in
    rw (
      take-set-le at out n b (omega arith),
      set_split out n b h,
      drop_at (take n out) (b ∷ drop (suc n) out) n (length-take-le n out (omega arith)),
      length-append,
      ← add_assoc,
      add-one,
      ← append_assoc,
      append_snoc,
    )

pub wrote_nothing : (at : ℕ) (out : List ℕ) → at ≤ length out → Wrote [] at out at out
wrote_nothing at out h = record { end = sym (add-zero at); inside = h; bytes = sym (placed_none at out) }

pub wrote_one : (at b : ℕ) (out : List ℕ) → at < length out → Wrote (b ∷ []) at out (at + 1) (set out at b)
wrote_one at b out h = record { end = refl; inside = omega arith; bytes = placed_one at b out h }

pub wrote_length : {text : List ℕ} {at next : ℕ} {x y : List ℕ} → Wrote text at x next y → length y ≡ length x
wrote_length {text} {at} {next} {x} w = ap length w.bytes ∙ length_placed at text x (omega arith)

-- a, then b from where a ended
pub wrote_then : {a b : List ℕ} {at mid next : ℕ} {x y z : List ℕ} → Wrote a at x mid y → Wrote b mid y next z → Wrote (a ++ b) at x next z
wrote_then {a} {b} {at} {mid} {next} {x} p q =
    let l = wrote_length p in
    record { end = omega (arith, length-append a b); inside = omega arith; bytes = q.bytes ∙ rw (p.bytes, p.end) (placed_then at a b x (omega arith)) }

-- for `search (needs, writes)` where a function returns what its writers wrote one after the other
pub two_writes : {a b text : List ℕ} {at mid next : ℕ} {x y z : List ℕ} → Wrote a at x mid y → Wrote b mid y next z → text ≡ a ++ b → Wrote text at x next z
two_writes p q e = rw e (wrote_then p q)

pub three_writes : {a b c text : List ℕ} {at i j next : ℕ} {w x y z : List ℕ} → Wrote a at w i x → Wrote b i x j y → Wrote c j y next z → text ≡ a ++ b ++ c
    → Wrote text at w next z
three_writes p q r e = rw e (wrote_then (wrote_then p q) r)

pub ruleset writes = (two_writes, three_writes)
