-- PT_LOADs that pass check 4 follow one another, and the last one ends memory.
-- Assumes nothing.
use Prim.Native.Nat.{ℕ, zero, suc, ◌+◌, ◌≤◌, ◌<◌}
use mathlib.Core.Path.{◌≡◌}
use mathlib.Core.Bool.{Bool, true, not, ◌||◌}
use mathlib.Core.List.{List}
use mathlib.Core.Logic.{⊎_elim}
use native.Mathlib.Nat.{eq-or-lt_of_le, le_of_suc-le-suc}
use native.Mathlib.Omega.{arith}
use lib.ListN.{length}
use lib.Dec.{leb, eqb}
use borrow.Author.Tests.{leb-true, le-leb, not-false}
use Rattle.rules.specs.Outcome.{good}
use Rattle.rules.specs.Limits.{memory_limit}
use Rattle.rules.specs.Segments.{header_at, is_load, aligned, good_load, end_before, bad_load, loads_check, loads_end}
use Rattle.rules.specs.Segments.{covers, holds, in_memory, holds_at, writable}
use Rattle.rules.specs.declared.Headers.{Headers}
use Rattle.rules.specs.declared.Segment.{Segment}
use Rattle.rules.proofs.OutcomeLaws.{and_left, and_right}
use Rattle.rules.proofs.BoolLaws.{cond_case}
use Rattle.laws.proofs.Checks.{and_false, faultless_all, some_at}

-- a good PT_LOAD in a file of so many bytes, after one that ends at last
pub record Good (size last : ℕ) (s : Segment) : Type 0 where
  pub sized : s.filesz ≤ s.memsz
  pub in_file : s.offset + s.filesz ≤ size
  pub in_limit : s.vaddr + s.memsz ≤ memory_limit
  pub after : last ≤ s.vaddr
  pub in_step : aligned s.align s.offset s.vaddr ≡ true

good_load_facts : (size last : ℕ) (s : Segment) → good_load size last s ≡ true → Good size last s
unfolding good_load
good_load_facts size last s h =
    let a = and_right (not (eqb s.memsz 0)) _ h in
    let b = and_right (leb s.filesz s.memsz) _ a in
    let c = and_right (leb (s.offset + s.filesz) size) _ b in
    let d = and_right (leb (s.vaddr + s.memsz) memory_limit) _ c in
    record {
      sized = leb-true _ _ (and_left (leb s.filesz s.memsz) _ a);
      in_file = leb-true _ _ (and_left (leb (s.offset + s.filesz) size) _ b);
      in_limit = leb-true _ _ (and_left (leb (s.vaddr + s.memsz) memory_limit) _ c);
      after = leb-true _ _ (and_left (leb last s.vaddr) _ d);
      in_step = and_right (leb last s.vaddr) _ d;
    }

pub covers_within : (start size a n : ℕ) → covers start size a n ≡ true → (start ≤ a) × (a + n ≤ start + size)
unfolding covers
covers_within start size a n h = (leb-true _ _ (and_left (leb start a) _ h), leb-true _ _ (and_right (leb start a) _ h))

pub within_covers : (start size a n : ℕ) → start ≤ a → a + n ≤ start + size → covers start size a n ≡ true
unfolding covers
within_covers start size a n l u = rw (le-leb start a l, le-leb (a + n) (start + size) u)

module _ (f : List ℕ) (h : Headers) (passed : loads_check f h ≡ good tt) where
  pub load_good : (i : ℕ) → i < h.count → is_load (header_at f h i) ≡ true → Good (length f) (end_before f h i) (header_at f h i)
  unfolding loads_check bad_load
  load_good i l e =
      good_load_facts (length f) (end_before f h i) (header_at f h i)
      (not-false _ (and_false (is_load (header_at f h i)) _ (faultless_all (bad_load f h) 4 h.count passed i l) e))

  -- a PT_LOAD's end is at most the end of the last one before any later index
  pub load_end : (k i : ℕ) → k ≤ h.count → i < k → is_load (header_at f h i) ≡ true
      → (header_at f h i).vaddr + (header_at f h i).memsz ≤ end_before f h k
  unfolding end_before
  load_end zero i u l e = absurd (omega arith)
  load_end (suc k) i u l e =
      ⊎_elim
      (λ (q : i ≡ k). let t : is_load (header_at f h k) ≡ true = rw (← q) e in rw (t, q) (omega arith))
      (λ (q : i < k).
      let before = load_end k i (omega arith) q e in
      cond_case (λ z. (header_at f h i).vaddr + (header_at f h i).memsz ≤ z) (is_load (header_at f h k)) _ _
      (λ t. let g = load_good k (omega arith) t in omega arith)
      (λ t. before))
      (eq-or-lt_of_le (le_of_suc-le-suc l))

  -- and within the limit
  pub end_limit : (k : ℕ) → k ≤ h.count → end_before f h k ≤ memory_limit
  unfolding end_before
  end_limit zero u = omega arith
  end_limit (suc k) u =
      let before = end_limit k (omega arith) in
      cond_case (λ z. z ≤ memory_limit) (is_load (header_at f h k)) _ _
      (λ t. (load_good k (omega arith) t).in_limit)
      (λ t. before)

  pub loads_apart : (i j : ℕ) → i < j → j < h.count → is_load (header_at f h i) ≡ true → is_load (header_at f h j) ≡ true
      → (header_at f h i).vaddr + (header_at f h i).memsz ≤ (header_at f h j).vaddr
  loads_apart i j l u a b = let e = load_end j i (omega arith) l a in let g = load_good j u b in omega arith

  -- what is in memory ends by the end of the last PT_LOAD
  pub in_memory_holds : (write : Bool) (a n : ℕ) → in_memory f h write a n ≡ true → a + n ≤ loads_end f h
  unfolding in_memory holds_at holds
  in_memory_holds write a n q =
      let s = some_at _ h.count q in
      let t = header_at f h s.0 in
      let c = covers_within t.vaddr t.memsz a n (and_right (not write || writable t) _ (and_right (is_load t) _ s.1.1)) in
      let e = load_end h.count s.0 (omega arith) s.1.0 (and_left (is_load t) _ s.1.1) in
      omega arith
