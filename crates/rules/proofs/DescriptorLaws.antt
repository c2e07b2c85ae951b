-- A step by its tests; a descriptor that reads, by its; and its shortest form, number by number.
-- Assumes nothing.
use Prim.Native.Nat.{ℕ, ◌+◌, ◌%◌, ◌≤◌, ◌<◌}
use mathlib.Core.Path.{◌≡◌}
use mathlib.Core.Bool.{Bool, true, false, not, ◌&&◌}
use mathlib.Core.List.{List}
use native.Mathlib.Omega.{arith}
use lib.ListN.{length}
use borrow.Author.Tests.{eq-eqb, ne_eqb, lt-leb, le-leb, lt-ltb, le-ltb}
use Rattle.rules.specs.Outcome.{good, refuse}
use Rattle.rules.specs.Limits.{address_limit, granule}
use Rattle.rules.specs.Descriptors.{number, uleb_at, size_limit, padded, short_second, short_first, Descriptor, end_after, said_after}
use Rattle.rules.specs.Descriptors.{finished, global_after, judged, read_at, step_at}
use Rattle.rules.specs.declared.Cursor.{Cursor}
use Rattle.rules.proofs.BoolLaws.{and_false, and_true}

-- ---- a step

module _ (index : ℕ) (s : List ℕ) (c : Cursor) where
  -- past the table
  pub step_past : length s < c.position → step_at index s c ≡ refuse 8 index
  unfolding step_at
  step_past h = rw (lt-leb _ _ h)

  -- a last end that is not of whole granules
  pub step_uneven : c.position ≤ length s → (c.end % granule ≡ 0 → ⊥) → step_at index s c ≡ refuse 9 index
  unfolding step_at
  step_uneven h e = rw (le-leb _ _ h, ne_eqb (c.end % granule) 0 e)

  -- or above 2^48
  pub step_high : c.position ≤ length s → c.end % granule ≡ 0 → address_limit < c.end → step_at index s c ≡ refuse 9 index
  unfolding step_at
  step_high h e l = rw (le-leb _ _ h, eq-eqb (c.end % granule) 0 e, lt-leb c.end address_limit l)

  -- at a descriptor
  pub step_reads : c.position < length s → c.end % granule ≡ 0 → c.end ≤ address_limit
      → step_at index s c ≡ read_at index s c.position c.end
  unfolding step_at
  step_reads h e l =
      let within : c.position ≤ length s = omega arith in
      rw (le-leb c.position (length s) within, eq-eqb (c.end % granule) 0 e, le-leb c.end address_limit l, lt-ltb _ _ h)

  -- at the table's end
  pub step_ends : c.position ≡ length s → c.end % granule ≡ 0 → c.end ≤ address_limit → step_at index s c ≡ good finished
  unfolding step_at
  step_ends h e l =
      let within : c.position ≤ length s = omega arith in
      let last : length s ≤ c.position = omega arith in
      rw (le-leb c.position (length s) within, eq-eqb (c.end % granule) 0 e, le-leb c.end address_limit l, le-ltb _ _ last)

-- ---- a descriptor that reads

module _ (index : ℕ) (short : Bool) (end : ℕ) (d : Descriptor) where
  -- it is not in shortest form
  pub judged_long : short ≡ false → judged index short end d ≡ refuse 16 index
  judged_long e = rw e

  -- it is, and its global ends above 2^48
  pub judged_high : short ≡ true → address_limit < end_after end d → judged index short end d ≡ refuse 9 index
  unfolding global_after
  judged_high e h = rw (e, lt-leb _ _ h)

  -- or by it
  pub judged_low : short ≡ true → end_after end d ≤ address_limit → judged index short end d ≡ good (said_after end d)
  unfolding global_after
  judged_low e h = rw (e, le-leb _ _ h)

-- ---- shortest form

module _ (s : List ℕ) (at v next : ℕ) where
  -- a first number with a size
  pub short_one : (v % size_limit ≡ 0 → ⊥) → short_first s at (number v next) ≡ not (padded s at next)
  unfolding short_first
  short_one h = rw (ne_eqb (v % size_limit) 0 h) (and_true (not (padded s at next)))

  -- a first number with a second after it
  pub short_two : v % size_limit ≡ 0 → short_first s at (number v next) ≡ (not (padded s at next) && short_second s next (uleb_at s next))
  unfolding short_first
  short_two h = rw (eq-eqb (v % size_limit) 0 h)

  -- a second number of a size that goes into the first
  pub short_small : v + 1 < size_limit → short_second s at (number v next) ≡ false
  unfolding short_second
  short_small h = rw (lt-leb size_limit (v + 1) h) (and_false (not (padded s at next)))

  -- and of one that does not
  pub short_large : size_limit ≤ v + 1 → short_second s at (number v next) ≡ not (padded s at next)
  unfolding short_second
  short_large h = rw (le-leb size_limit (v + 1) h) (and_true (not (padded s at next)))
