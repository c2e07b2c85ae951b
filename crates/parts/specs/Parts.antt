-- The file part of a PT_LOAD that was found, and is asked again.
-- Assumes nothing.
use Rattle.std.specs.Prelude.{ℕ, ◌+◌, ◌-◌, ◌≤◌, ◌<◌, ◌≡◌, Bool, true, List, length, Option, Some, None, ⊤}
use Rattle.rules.specs.Limits.{file_limit, memory_limit}
use Rattle.rules.specs.Segments.{covers, backing_of, in_memory}
use Rattle.rules.specs.declared.Headers.{Headers}
use Rattle.parts.specs.declared.Part.{Part}

-- it is inside the file and its limit, and below memory's limit; all bytes that it covers are inside the memory part of a PT_LOAD, a writable one where
-- that is asked, and are backed at their distance from its start
pub record Parted (f : List ℕ) (h : Headers) (write : Bool) (s : Part) : Type 0 where
  pub inside : s.at + s.size ≤ length f
  pub short : s.at + s.size ≤ file_limit
  pub low : s.start + s.size ≤ memory_limit
  pub held : (x k : ℕ) → 0 < k → covers s.start s.size x k ≡ true → in_memory f h write x k ≡ true
  pub backed : (x k : ℕ) → 0 < k → covers s.start s.size x k ≡ true → backing_of f h x k ≡ Some (s.at + (x - s.start))

-- what a search for the file part that has the n bytes from a found: it covers them; where none is found, nothing is said
abbrev pub PartFound : List ℕ → Headers → Bool → ℕ → ℕ → Option Part → Type 0
PartFound f h write a n (Some s) = Parted f h write s × (covers s.start s.size a n ≡ true)
PartFound f h write a n None = ⊤
