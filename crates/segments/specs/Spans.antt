-- The memory part of a PT_LOAD that was found, and is asked again.
-- Assumes nothing.
use Rattle.std.specs.Prelude.{ℕ, ◌<◌, ◌≡◌, Bool, true, false, List, Option, Some, None}
use Rattle.rules.specs.Segments.{covers, in_memory}
use Rattle.rules.specs.declared.Headers.{Headers}
use Rattle.segments.specs.declared.Span.{Span}

-- all bytes that it covers are inside the memory part of a PT_LOAD, a writable one where that is asked
pub record Sound (f : List ℕ) (h : Headers) (write : Bool) (s : Span) : Type 0 where
  pub within : 0 < s.size → (x k : ℕ) → covers s.start s.size x k ≡ true → in_memory f h write x k ≡ true

-- what a search for the PT_LOAD of the n bytes from a found; one that was found is not empty
abbrev pub Held : List ℕ → Headers → Bool → ℕ → ℕ → Option Span → Type 0
Held f h write a n (Some s) = Sound f h write s × (in_memory f h write a n ≡ true) × (0 < s.size)
Held f h write a n None = in_memory f h write a n ≡ false
