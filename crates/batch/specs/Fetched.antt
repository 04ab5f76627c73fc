-- What reading a session leaves. Which bytes were read nothing tells.
use Rattle.std.specs.Prelude.{ℕ, ◌≤◌, ◌≡◌, List, length, drop, Option, Some, None}

-- a session lies inside the buffer, and what stands behind it is untouched; at the end of the batch a part of a session may have been read
abbrev pub fetched : Option ℕ → List ℕ → List ℕ → Type 0
fetched (Some n) before after = (n ≤ length before) × (drop n after ≡ drop n before)
fetched None before after = Unit {0}
