-- The file part of a PT_LOAD that passed check 4.
-- Assumes nothing.
use Rattle.std.specs.Prelude.{Some}
use Prim.Native.Nat.{ℕ, ◌+◌, ◌≤◌, ◌<◌}
use mathlib.Core.Path.{◌≡◌}
use mathlib.Core.Bool.{Bool, true, not, ◌&&◌, ◌||◌}
use mathlib.Core.List.{List}
use native.Mathlib.Omega.{arith}
use lib.Dec.{leb}
use Rattle.rules.specs.Outcome.{good}
use Rattle.rules.specs.Limits.{file_limit}
use Rattle.rules.specs.Segments.{header_at, is_load, writable, loads_check, covers}
use Rattle.rules.specs.Segments.{backs, backs_at, holds, holds_at, in_memory}
use Rattle.rules.specs.declared.Headers.{Headers}
use Rattle.rules.specs.declared.Segment.{Segment}
use Rattle.rules.proofs.FirstLaws.{at_some}
use Rattle.rules.proofs.OutcomeLaws.{and_left, and_right}
use Rattle.laws.proofs.Loads.{load_good, covers_within, within_covers}
use Rattle.laws.proofs.Loaded.{backing_part}
use Rattle.segments.proofs.Laws.{backs_inside}
use Rattle.parts.specs.Parts.{Parted, PartFound}

-- none was found
pub parted_none : (f : List ℕ) (h : Headers) (write : Bool) → Parted f h write (record { start = 0; size = 0; at = 0 })
parted_none f h write = record {
  inside = omega arith;
  short = omega arith;
  low = omega arith;
  held = λ x k l e. let c = covers_within 0 0 x k e in absurd (omega arith);
  backed = λ x k l e. let c = covers_within 0 0 x k e in absurd (omega arith);
}

-- what covers bytes with its first part covers them
covers_more : (start part size x k : ℕ) → part ≤ size → covers start part x k ≡ true → covers start size x k ≡ true
covers_more start part size x k l e = let c = covers_within start part x k e in within_covers start size x k c.0 (omega arith)

-- a PT_LOAD that backs some bytes backs all that its file part covers
backs_too : (a n x k : ℕ) (s : Segment) → backs a n s ≡ true → covers s.vaddr s.filesz x k ≡ true → backs x k s ≡ true
unfolding backs
backs_too a n x k s h e =
    let load = and_left (is_load s) _ h in
    let limit : leb (s.offset + s.filesz) file_limit ≡ true = search (and_left, and_right) in
    rw (load, e, limit)

-- and holds them
backs_held : (write : Bool) (x k : ℕ) (s : Segment) → s.filesz ≤ s.memsz → (not write || writable s) ≡ true → backs x k s ≡ true
    → holds write x k s ≡ true
unfolding backs holds
backs_held write x k s l w b =
    let load = and_left (is_load s) _ b in
    let c = and_left (covers s.vaddr s.filesz x k) _ (and_right (is_load s) _ b) in
    rw (load, w, covers_more s.vaddr s.filesz s.memsz x k l c)

-- the one of an index was found
module _ (f : List ℕ) (h : Headers) (passed : loads_check f h ≡ good tt) (write : Bool) where
  held_part : (x k i : ℕ) → i < h.count → (header_at f h i).filesz ≤ (header_at f h i).memsz → (not write || writable (header_at f h i)) ≡ true
      → backs x k (header_at f h i) ≡ true → in_memory f h write x k ≡ true
  unfolding in_memory holds_at
  held_part x k i m l w b = at_some (holds_at f h write x k) h.count i m (backs_held write x k (header_at f h i) l w b)

  parted_at : (a n i : ℕ) (s : Segment) → i < h.count → s ≡ header_at f h i → ((not write || writable s) && backs a n s) ≡ true
      → Parted f h write (record { start = s.vaddr; size = s.filesz; at = s.offset })
  unfolding backs backs_at
  parted_at a n i s m e p =
      let t = header_at f h i in
      let q : ((not write || writable t) && backs a n t) ≡ true = rw (← e) p in
      let w = and_left (not write || writable t) _ q in
      let b = and_right (not write || writable t) _ q in
      let g = load_good f h passed i m (and_left (is_load t) _ b) in
      rw e
      (record {
        inside = g.in_file;
        short = (backs_inside a n t b).2;
        low = let z = g.sized in let limit = g.in_limit in omega arith;
        held = λ x k l c. held_part x k i m g.sized w (backs_too a n x k t b c);
        backed = λ x k l c. backing_part f h passed x k i l m (backs_too a n x k t b c);
      })

  -- and it covers them
  pub found_at : (a n i : ℕ) (s : Segment) → i < h.count → s ≡ header_at f h i → ((not write || writable s) && backs a n s) ≡ true
      → PartFound f h write a n (Some (record { start = s.vaddr; size = s.filesz; at = s.offset }))
  unfolding backs
  found_at a n i s m e p =
      let b = and_right (not write || writable s) _ p in
      (parted_at a n i s m e p, and_left (covers s.vaddr s.filesz a n) _ (and_right (is_load s) _ b))
