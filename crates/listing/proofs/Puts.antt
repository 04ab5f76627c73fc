-- What writers put one after the other is one text put.
use Rattle.std.proofs.Common.{ℕ, ◌+◌, ◌≤◌, ◌≡◌, List, ◌++◌, length, take, drop, arith, sym, ◌∙◌, append_assoc, drop-drop}
use Rattle.laws.specs.Placed.{placed, Wrote, wrote_then, wrote_length}
use Rattle.listing.specs.declared.line.Line.{Line}
use Rattle.listing.specs.Written.{Puts}

module _ {text : List ℕ} {x y : Line} where
  pub puts : {most : ℕ} → y.out.ghost_name ≡ x.out.ghost_name → Wrote text x.at x.out.now y.at y.out.now → length text ≤ most → Puts most text x y
  puts b w l = record { same_buffer = b; same_length = wrote_length w; upper_bound = omega (arith, w.end); wrote = w }

  pub widened : {least most : ℕ} → Puts least text x y → least ≤ most → Puts most text x y
  widened p l = record { same_buffer = p.same_buffer; same_length = p.same_length; upper_bound = omega arith; wrote = p.wrote }

infixl 20 ◌then◌
pub ◌then◌ : {m n : ℕ} {a b : List ℕ} {x y z : Line} → Puts m a x y → Puts n b y z → Puts (m + n) (a ++ b) x z
p then q = record {
  same_buffer = q.same_buffer ∙ p.same_buffer;
  same_length = q.same_length ∙ p.same_length;
  upper_bound = omega (arith, p.upper_bound, q.upper_bound);
  wrote = wrote_then p.wrote q.wrote;
}

-- a part of the buffer that a text was copied over
pub copied_over : {at next k : ℕ} {text part out : List ℕ} → part ≡ text → k ≡ length text → next ≡ at + length text → next ≤ length out
    → Wrote text at out next (take at out ++ (part ++ drop k (drop at out)))
unfolding placed
copied_over {at} {next} {k} {text} {part} {out} p l e room =
    record { end = e; inside = room; bytes = rw (p, l, drop-drop) (sym (append_assoc (take at out) text _)) }
