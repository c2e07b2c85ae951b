-- A PT_LOAD that holds some bytes holds all that its memory part covers.
-- Assumes nothing.
use Rattle.std.specs.Prelude.{Some}
use Prim.Native.Nat.{ℕ, ◌+◌, ◌≤◌, ◌<◌}
use mathlib.Core.Path.{◌≡◌}
use mathlib.Core.Bool.{Bool, true, not, ◌||◌}
use mathlib.Core.List.{List}
use native.Mathlib.Omega.{arith}
use borrow.Author.Tests.{leb-true}
use Rattle.rules.specs.Segments.{header_at, is_load, writable, covers, holds, holds_at, in_memory}
use Rattle.rules.specs.declared.Headers.{Headers}
use Rattle.rules.specs.declared.Segment.{Segment}
use Rattle.rules.proofs.FirstLaws.{at_some}
use Rattle.rules.proofs.OutcomeLaws.{and_left, and_right}
use Rattle.segments.specs.Spans.{Sound, Held}
use Rattle.segments.specs.declared.Span.{Span}

-- a holder of bytes holds any others that it covers
held_too : (write : Bool) (a n x k : ℕ) (s : Segment) → holds write a n s ≡ true → covers s.vaddr s.memsz x k ≡ true
    → holds write x k s ≡ true
unfolding holds
held_too write a n x k s h e =
    let load : is_load s ≡ true = search (and_left, and_right) in
    let lets : (not write || writable s) ≡ true = search (and_left, and_right) in
    rw (load, lets, e)

held_covers : (write : Bool) (a n : ℕ) (s : Segment) → holds write a n s ≡ true → covers s.vaddr s.memsz a n ≡ true
unfolding holds
held_covers write a n s h = search (and_left, and_right)

-- what covers bytes is not empty
pub covers_some : (start size a n : ℕ) → 0 < n → covers start size a n ≡ true → 0 < size
unfolding covers
covers_some start size a n p h =
    let low : start ≤ a = leb-true _ _ (search (and_left, and_right)) in
    let high : a + n ≤ start + size = leb-true _ _ (search (and_left, and_right)) in
    omega arith

module _ (f : List ℕ) (h : Headers) (write : Bool) where
  -- none was found yet
  pub sound_none : (s : Span) → s.size ≡ 0 → Sound f h write s
  sound_none s e = record { within = λ l. absurd (omega arith) }

  -- the one found last holds the bytes
  pub held_last : (a n : ℕ) (s : Span) → 0 < n → Sound f h write s → covers s.start s.size a n ≡ true → Held f h write a n (Some s)
  held_last a n s l sound e =
      let some = covers_some s.start s.size a n l e in
      (sound, sound.within some a n e, some)

  -- the one of an index does
  pub held_at : (a n i : ℕ) (s : Segment) → 0 < n → i < h.count → s ≡ header_at f h i → holds_at f h write a n i ≡ true
      → Held f h write a n (Some (record { start = s.vaddr; size = s.memsz }))
  unfolding in_memory holds_at
  held_at a n i s l m e b =
      let hit : holds write a n s ≡ true = rw e b in
      let sound : Sound f h write (record { start = s.vaddr; size = s.memsz }) = record {
        within = λ _ x k q. at_some (holds_at f h write x k) h.count i m (rw (← e) (held_too write a n x k s hit q));
      } in
      (sound, at_some (holds_at f h write a n) h.count i m b, covers_some s.vaddr s.memsz a n l (held_covers write a n s hit))
