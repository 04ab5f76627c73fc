-- What a read puts behind what was read before stands behind it, and is what the reader had next.
use Rattle.std.proofs.Common.{◌≡◌, ℕ, ◌+◌, ◌≤◌, List, Option, ◌++◌, length, take, sym, ap, subst, ◌∙◌, length-take-le}
use Rattle.std.proofs.KnownBytes.{Consumes-trans}
use Rattle.std.specs.Io.KnownBytes.{Consumes}
use borrow.Rule.Slice.PartMut.{put_mid, post_of}
use lib.Seq.{take-append-add, take-append-le}

joined : (a k n : ℕ) (old part : List ℕ) → a ≤ length old → n ≤ length part → take (a + n) (put_mid a k old part) ≡ take a old ++ take n part
joined a k n old part within fits =
    let after = post_of a k old in
    ap (λ m. take (m + n) (put_mid a k old part)) (sym (length-take-le a old within))
    ∙ take-append-add (take a old) (part ++ after) n
    ∙ ap (λ l. take a old ++ l) (take-append-le n part after fits)

pub read_on : (first before after : Option (List ℕ)) (a k n : ℕ) (old part : List ℕ) → Consumes first before (take a old) → Consumes before after (take n part) → a ≤ length old → n ≤ length part → Consumes first after (take (a + n) (put_mid a k old part))
read_on first before after a k n old part h more within fits = subst (Consumes _ _) (sym (joined a k n old part within fits)) (Consumes-trans _ _ _ _ _ h more)
