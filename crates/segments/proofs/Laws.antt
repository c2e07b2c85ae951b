-- What follows where bytes are backed.
-- Assumes nothing.
use Rattle.std.specs.Prelude.{Some}
use Prim.Native.Nat.{ℕ, ◌+◌, ◌*◌, ◌-◌, ◌≤◌}
use mathlib.Core.Path.{◌≡◌, refl}
use mathlib.Core.Bool.{Bool, true, false, cond}
use mathlib.Core.List.{List}
use native.Mathlib.Omega.{arith}
use lib.Dec.{leb}
use borrow.Author.Tests.{leb-true}
use Rattle.rules.specs.Limits.{file_limit}
use Rattle.rules.specs.Bytes.{le}
use Rattle.rules.specs.Segments.{header_at, covers, backs, backing_in, backs_at}
use Rattle.rules.specs.declared.Headers.{Headers}
use Rattle.rules.specs.declared.Segment.{Segment}
use Rattle.rules.proofs.OutcomeLaws.{and_left, and_right}

-- what is backed lies in the segment's file part, and that in the file's limit
pub backs_inside : (a n : ℕ) (s : Segment) → backs a n s ≡ true
    → (s.vaddr ≤ a) × (a + n ≤ s.vaddr + s.filesz) × (s.offset + s.filesz ≤ file_limit)
unfolding backs covers
backs_inside a n s h =
    (leb-true _ _ (search (and_left, and_right)), leb-true _ _ (search (and_left, and_right)), leb-true _ _ (search (and_left, and_right)))

-- the two fields that tell where they stand in the file
module _ (f : List ℕ) (h : Headers) (a n i offset vaddr : ℕ) (o : offset ≡ le 8 f (h.table + 56 * i + 8))
    (v : vaddr ≡ le 8 f (h.table + 56 * i + 16)) where
  pub fields_inside : backs_at f h a n i ≡ true → (vaddr ≤ a) × (offset + (a - vaddr) ≤ file_limit)
  unfolding backs_at header_at
  fields_inside e = let b = backs_inside a n (header_at f h i) e in (omega arith, omega arith)

  pub fields_backing : Some (offset + (a - vaddr)) ≡ backing_in (header_at f h i) a
  unfolding header_at
  fields_backing = rw (o, v)

pub leb_cond : (b : Bool) (x y n : ℕ) → leb (cond b x y) n ≡ cond b (leb x n) (leb y n)
leb_cond true x y n = refl
leb_cond false x y n = refl
