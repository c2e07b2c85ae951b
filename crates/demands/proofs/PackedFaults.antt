-- Check 15 refuses where the table is not backed, at a first word that is a bitmap, or at the word whose places are too many.
-- Assumes nothing.
use Rattle.std.specs.Prelude.{Option, Some}
use Prim.Native.Nat.{ℕ, zero, suc, ◌+◌, ◌/◌, ◌%◌, ◌≤◌, ◌<◌}
use mathlib.Core.Path.{◌≡◌, refl, sym, ap, ◌∙◌, subst}
use mathlib.Core.Bool.{Bool, true, false}
use mathlib.Core.List.{List}
use mathlib.Core.Logic.{⊎_elim}
use native.Mathlib.Nat.{add-zero, eq-or-lt_of_le}
use native.Mathlib.Numerals.{add-one}
use native.Mathlib.Omega.{arith}
use lib.ListN.{length}
use lib.Dec.{eqb}
use borrow.Author.Tests.{eqb-true, eqb-false, ltb-true, ltb-false, lt-ltb, le-ltb}
use Rattle.rules.specs.Outcome.{bad, refusal, Refusal}
use Rattle.rules.specs.Limits.{entry_limit}
use Rattle.rules.specs.Bytes.{le}
use Rattle.rules.specs.Tables.{table_backing, backed, packed_address, packed_bytes}
use Rattle.rules.specs.Packed.{Named, packed_word, packed_before, bad_word, words_check, packed_of}
use Rattle.rules.specs.declared.Headers.{Headers}
use Rattle.rules.specs.declared.Dynamic.{Dynamic}
use Rattle.rules.specs.declared.Relocations.{Relocations}
use Rattle.rules.proofs.OutcomeLaws.{good_bad}
use Rattle.laws.proofs.Checks.{and_then_bad}
use Rattle.laws.proofs.Packed.{before_none, before_grows}
use Rattle.laws.proofs.PackedTable.{backed_bad, backed_good, bad_many, bad_bitmap}
use Rattle.demands.proofs.Lowest.{not_both, faultless_lowest, lowest_faultless}
use Rattle.demands.specs.Table.{Lowest, PackedFault, not_backed, bitmap_first, too_many}

-- the first word stands where the table does
first_word : (f : List ℕ) (at : ℕ) → packed_word f at 0 ≡ le 8 f at
first_word f at = rw add-zero

-- the words of a table at a position of the file, where the entries are not too many by themselves
module _ (f : List ℕ) (at entries n : ℕ) (few : entries ≤ entry_limit) where
  -- entries and the places of the words below an index
  abbrev total : ℕ → ℕ
  total k = entries + length (packed_before f at k)

  -- the lowest bad word behind an even first one
  before_many : (i : ℕ) → packed_word f at 0 % 2 ≡ 0 → Lowest (bad_word f at entries) 0 n i → total i ≤ entry_limit
  before_many zero e l = let z = ap {A = List Named} length (before_none f at) in omega arith
  before_many (suc i) e l =
      let m = sym (bad_many f at entries i e) ∙ l.lowest i (omega arith) (omega arith) in
      subst (λ (x : ℕ). total x ≤ entry_limit) (add-one i) (ltb-false entry_limit _ m)

  many_lowest : (i : ℕ) → i < n → packed_word f at 0 % 2 ≡ 0 → total i ≤ entry_limit → entry_limit < total (i + 1)
      → Lowest (bad_word f at entries) 0 n i
  many_lowest i l e u v = record {
    from = omega arith;
    below = l;
    faulty = bad_many f at entries i e ∙ lt-ltb entry_limit (total (i + 1)) v;
    lowest = λ x _ b.
        let g = before_grows f at i (x + 1) (omega arith) in
        bad_many f at entries x e ∙ le-ltb entry_limit (total (x + 1)) (omega arith);
  }

  bitmap_lowest : 0 < n → (packed_word f at 0 % 2 ≡ 0 → ⊥) → Lowest (bad_word f at entries) 0 n 0
  bitmap_lowest l e =
      record { from = omega arith; below = l; faulty = bad_bitmap f at entries e; lowest = λ x _ b. absurd (omega arith) }

  -- a bitmap first is the lowest
  bitmap_zero : (i : ℕ) → (packed_word f at 0 % 2 ≡ 0 → ⊥) → Lowest (bad_word f at entries) 0 n i → i ≡ 0
  bitmap_zero i e l =
      ⊎_elim
      (λ (z : 0 ≡ i). sym z)
      (λ (z : 0 < i). not_both (bad_word f at entries 0) (bad_bitmap f at entries e) (l.lowest 0 (omega arith) z))
      (eq-or-lt_of_le (omega arith))

module _ (f : List ℕ) (h : Headers) (d : Dynamic) (r : Relocations) (few : r.entries ≤ entry_limit) where
  abbrev backing : Option ℕ
  backing = table_backing f h (packed_address f d) (packed_bytes f d)

  abbrev count : ℕ
  count = packed_bytes f d / 8

  lowest_fault : (at i : ℕ) → backing ≡ Some at → Lowest (bad_word f at r.entries) 0 count i → PackedFault f h d r.entries i
  lowest_fault at i b l = go (eqb (packed_word f at 0 % 2) 0) refl
    where
      go : (even : Bool) → eqb (packed_word f at 0 % 2) 0 ≡ even → PackedFault f h d r.entries i
      go true q =
          let e = eqb-true _ _ q in
          let m = sym (bad_many f at r.entries i e) ∙ l.faulty in
          too_many at b l.below (rw (first_word f at) at e) (before_many f at r.entries count few i e l) (ltb-true entry_limit _ m)
      go false q =
          let e = eqb-false _ _ q in
          let z = bitmap_zero f at r.entries count few i e l in
          let u = l.below in
          bitmap_first at b (omega arith) (let w = first_word f at in omega arith) z

  pub packed_says : (q : Refusal) → packed_of f h d r ≡ bad q → (i : ℕ) × ((q ≡ refusal 15 i) × PackedFault f h d r.entries i)
  unfolding packed_of
  packed_says q e =
      and_then_bad (backed 15 0 backing) _ e
      (λ s. let b = backed_bad 15 0 backing s in (0, (b.1, not_backed b.0 refl)))
      (λ at a s.
      and_then_bad (words_check f at r.entries count) _ s
      (λ s.
      let l = faultless_lowest (bad_word f at r.entries) 15 count s in
      (l.0, (l.1.1, lowest_fault at l.0 (backed_good 15 0 at backing a) l.1.0)))
      (λ _ _ s. good_bad s))

  at_lowest : (at i : ℕ) → backing ≡ Some at → Lowest (bad_word f at r.entries) 0 count i → packed_of f h d r ≡ bad (refusal 15 i)
  unfolding packed_of
  at_lowest at i b l = let w = lowest_faultless (bad_word f at r.entries) 15 count i l in rw (b, w)

  pub packed_when : (i : ℕ) → PackedFault f h d r.entries i → packed_of f h d r ≡ bad (refusal 15 i)
  unfolding packed_of
  packed_when i (not_backed b z) = rw (b, z)
  packed_when i (bitmap_first at b l e z) =
      rw z (at_lowest at 0 b (bitmap_lowest f at r.entries count few l (λ q. let w = first_word f at in omega arith)))
  packed_when i (too_many at b l e u v) =
      at_lowest at i b (many_lowest f at r.entries count few i l (rw (first_word f at) e) u v)
