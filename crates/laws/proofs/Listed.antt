-- What the checks of a listed global say, and the lists taken apart at an index.
-- Assumes nothing.
use Prim.Native.Nat.{ℕ, zero, suc, ◌+◌, ◌*◌, ◌-◌, ◌/◌, ◌%◌, ◌≤◌, ◌<◌}
use mathlib.Core.Path.{◌≡◌, sym, ◌∙◌}
use mathlib.Core.Bool.{◌&&◌}
use mathlib.Core.List.{List, ◌++◌}
use native.Mathlib.Numerals.{add-one}
use native.Mathlib.Omega.{arith}
use lib.ListN.{length, get_or, drop, length-append, drop_of_length-le}
use lib.Seq.{drop-cons}
use lib.Dec.{eqb}
use borrow.Author.Tests.{eqb-true, eqb-false, eq-eqb, ne_eqb, leb-true, le-leb, not-true}
use Rattle.rules.specs.Outcome.{good, and_then}
use Rattle.rules.specs.Checks.{runs}
use Rattle.rules.specs.Limits.{address_limit, granule}
use Rattle.rules.specs.Writer.{descriptor_after, table_from, listed_checks, list_check}
use Rattle.rules.proofs.OutcomeLaws.{and_left, and_right, require_held, and_then_good}
use Rattle.rules.proofs.ChecksLaws.{all_runs, runs_all}
use Rattle.laws.proofs.Encoding.{descriptor_short}

-- a global that passes, after one that ends at end
pub record Listed (end a s : ℕ) : Type 0 where
  pub filled : 0 < s
  pub whole_size : s % granule ≡ 0
  pub whole_address : a % granule ≡ 0
  pub after : end ≤ a
  pub low : a + s ≤ address_limit

pub listed_good : (i end a s : ℕ) → runs (listed_checks i end a s) ≡ good tt → Listed end a s
listed_good i end a s h =
    let c = runs_all (listed_checks i end a s) h in
    let some = eqb-false s 0 (not-true (eqb s 0) (require_held _ 2 i c.0)) in
    let whole = require_held (eqb (s % granule) 0 && eqb (a % granule) 0) 3 i c.1.0 in
    record {
      filled = omega arith;
      whole_size = eqb-true (s % granule) 0 (and_left _ _ whole);
      whole_address = eqb-true (a % granule) 0 (and_right (eqb (s % granule) 0) _ whole);
      after = leb-true end a (require_held _ 4 i c.1.1.0);
      low = leb-true (a + s) address_limit (require_held _ 5 i c.1.1.1.0);
    }

pub good_listed : (i end a s : ℕ) → Listed end a s → runs (listed_checks i end a s) ≡ good tt
good_listed i end a s h =
    let f = h.filled in
    all_runs (listed_checks i end a s) (
      rw (ne_eqb s 0 (λ q. omega arith)),
      (
        rw (eq-eqb (s % granule) 0 h.whole_size, eq-eqb (a % granule) 0 h.whole_address),
        (rw (le-leb end a h.after), (rw (le-leb (a + s) address_limit h.low), tt)),
      ),
    )

-- ---- from an index on

module _ (addresses sizes : List ℕ) (i : ℕ) (l : i < length addresses) (k : i < length sizes) where
  pub check_at : (end : ℕ) → list_check i end (drop i addresses) (drop i sizes)
      ≡ and_then (runs (listed_checks i end (get_or addresses i 0) (get_or sizes i 0)))
      (λ _. list_check (i + 1) (get_or addresses i 0 + get_or sizes i 0) (drop (i + 1) addresses) (drop (i + 1) sizes))
  unfolding list_check
  check_at end = rw (drop-cons addresses i 0 l, drop-cons sizes i 0 k, add-one)

  pub table_at : (end : ℕ) → table_from end (drop i addresses) (drop i sizes)
      ≡ descriptor_after end (get_or addresses i 0) (get_or sizes i 0)
      ++ table_from (get_or addresses i 0 + get_or sizes i 0) (drop (i + 1) addresses) (drop (i + 1) sizes)
  unfolding table_from
  table_at end = rw (drop-cons addresses i 0 l, drop-cons sizes i 0 k, add-one)

-- checks that pass, at an index and after it
pub passed_at : (addresses sizes : List ℕ) (i end : ℕ) → i < length addresses → i < length sizes
    → list_check i end (drop i addresses) (drop i sizes) ≡ good tt
    → Listed end (get_or addresses i 0) (get_or sizes i 0)
    × (list_check (i + 1) (get_or addresses i 0 + get_or sizes i 0) (drop (i + 1) addresses) (drop (i + 1) sizes) ≡ good tt)
passed_at addresses sizes i end l k h =
    let r = and_then_good (runs (listed_checks i end (get_or addresses i 0) (get_or sizes i 0))) _ (sym (check_at addresses sizes i l k end) ∙ h) in
    (listed_good i end (get_or addresses i 0) (get_or sizes i 0) r.here, r.rest)

-- a descriptor has at most 14 bytes, and so is no longer than its global
pub listed_short : (end a s : ℕ) → Listed end a s → (length (descriptor_after end a s) ≤ 14) × (length (descriptor_after end a s) ≤ s)
listed_short end a s h =
    let f = h.filled in
    let w = h.whole_size in
    let low = h.low in
    let d = descriptor_short ((a - end) / granule) (s / granule) (omega arith) (omega arith) in
    (d, omega arith)

-- and the n descriptors from an index on
pub table_short : (addresses sizes : List ℕ) (n i end : ℕ) → i + n ≡ length addresses → length addresses ≡ length sizes
    → list_check i end (drop i addresses) (drop i sizes) ≡ good tt → length (table_from end (drop i addresses) (drop i sizes)) ≤ 14 * n
unfolding table_from
table_short addresses sizes zero i end e l h = rw (drop_of_length-le addresses {i = i} (omega arith)) (omega arith)
table_short addresses sizes (suc n) i end e l h =
    let p = passed_at addresses sizes i end (omega arith) (omega arith) h in
    let d = (listed_short end (get_or addresses i 0) (get_or sizes i 0) p.0).0 in
    let rest = table_short addresses sizes n (i + 1) (get_or addresses i 0 + get_or sizes i 0) (omega arith) l p.1 in
    rw (table_at addresses sizes i (omega arith) (omega arith) end, length-append) (omega arith)
