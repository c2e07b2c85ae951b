-- What check 15 says of a packed table: with an even first word only the count is left to fail.
-- Assumes nothing.
use Rattle.std.specs.Prelude.{Option, Some, None}
use Prim.Native.Nat.{ℕ, zero, suc, ◌+◌, ◌*◌, ◌/◌, ◌%◌, ◌≤◌, ◌<◌}
use mathlib.Core.Path.{◌≡◌, refl, sym, ap, ◌∙◌, subst}
use mathlib.Core.Bool.{Bool, true, false, cond, not, ◌&&◌, ◌||◌}
use mathlib.Core.List.{List}
use mathlib.Core.Logic.{⊎_elim}
use native.Mathlib.Nat.{eq-or-lt_of_le}
use native.Mathlib.Numerals.{add-one}
use native.Mathlib.Omega.{arith}
use lib.ListN.{length}
use lib.Dec.{ltb, eqb}
use borrow.Author.Tests.{eqb-true, eqb-false, eq-eqb, ne_eqb, ltb-true, ltb-false, leb-true}
use Rattle.rules.specs.Outcome.{good, bad, refusal, Refusal}
use Rattle.rules.specs.Limits.{file_limit, entry_limit}
use Rattle.rules.specs.First.{first, some_below}
use Rattle.rules.specs.Segments.{header_at, is_load, covers, backs, backs_at, backer, backing_in, backing_of}
use Rattle.rules.specs.Tables.{table_backing, backed, packed_address, packed_bytes}
use Rattle.rules.specs.Packed.{Named, packed_word, packed_before, is_place_at, bad_word, words_check, packed_at, packed_of}
use Rattle.rules.specs.declared.Headers.{Headers}
use Rattle.rules.specs.declared.Dynamic.{Dynamic}
use Rattle.rules.specs.declared.Relocations.{Relocations}
use Rattle.rules.specs.declared.Packed.{Packed}
use Rattle.rules.proofs.FirstLaws.{at_some, first_true}
use Rattle.rules.proofs.OutcomeLaws.{never, true_false, and_left, and_right, and_then_good}
use Rattle.laws.proofs.Checks.{faultless_all, good_same}
use Rattle.laws.proofs.Loads.{covers_within}
use Rattle.laws.proofs.Packed.{before_none}

-- ---- where a table is backed

pub backed_bad : {r : Refusal} (number position : ℕ) (p : Option ℕ) → backed number position p ≡ bad r
    → (p ≡ None) × (r ≡ refusal number position)
backed_bad number position None e = (refl, cc)
backed_bad number position (Some at) e = search never

pub backed_good : (number position at : ℕ) (p : Option ℕ) → backed number position p ≡ good at → p ≡ Some at
backed_good number position at None e = search never
backed_good number position at (Some x) e = let q : x ≡ at = cc in rw q

-- a table that is backed is no longer than a file may be
pub table_short : (f : List ℕ) (h : Headers) (a n at : ℕ) → table_backing f h a n ≡ Some at → n ≤ file_limit
unfolding table_backing backing_of backer backs_at backs
table_short f h a n at e = go (eqb n 0) refl e
  where
    i : ℕ
    i = first (backs_at f h a n) 0 h.count

    inside : (b : Bool) → ltb i h.count ≡ b → cond b (backing_in (header_at f h i) a) None ≡ Some at → n ≤ file_limit
    inside true q x =
        let s = header_at f h i in
        let t = first_true (backs_at f h a n) h.count 0 (let l = ltb-true i h.count q in omega arith) in
        let u = and_right (is_load s) _ t in
        let c = covers_within s.vaddr s.filesz a n (and_left (covers s.vaddr s.filesz a n) _ u) in
        let l = leb-true (s.offset + s.filesz) file_limit (and_right (covers s.vaddr s.filesz a n) _ u) in
        omega arith
    inside false q x = absurd (let z : ◌≡◌ {A = ℕ} 0 1 = cc in omega arith)

    go : (b : Bool) → eqb n 0 ≡ b → cond b (Some 0) (backing_of f h a n) ≡ Some at → n ≤ file_limit
    go true q x = let z = eqb-true n 0 q in omega arith
    go false q x = inside (ltb i h.count) refl x

-- ---- the words

module _ (f : List ℕ) (at entries : ℕ) where
  abbrev many : ℕ → Bool
  many k = ltb entry_limit (entries + length (packed_before f at (k + 1)))

  first_place : packed_word f at 0 % 2 ≡ 0 → is_place_at f at 0 ≡ true
  unfolding is_place_at
  first_place e = eq-eqb (packed_word f at 0 % 2) 0 e

  -- behind an even first word no bitmap is before any place
  pub bad_many : (k : ℕ) → packed_word f at 0 % 2 ≡ 0 → bad_word f at entries k ≡ many k
  unfolding bad_word
  bad_many k e = go (is_place_at f at k) refl
    where
      go : (b : Bool) → is_place_at f at k ≡ b → ((not b && not (some_below (is_place_at f at) k)) || many k) ≡ many k
      go true q = refl
      go false q =
          ⊎_elim
          (λ (z : 0 ≡ k). true_false (sym (first_place e) ∙ rw (← z) at q))
          (λ (z : 0 < k). rw (at_some (is_place_at f at) k 0 z (first_place e)))
          (eq-or-lt_of_le (omega arith))

  -- an odd first word is bad
  pub bad_bitmap : (packed_word f at 0 % 2 ≡ 0 → ⊥) → bad_word f at entries 0 ≡ true
  unfolding bad_word is_place_at first
  bad_bitmap e = rw (ne_eqb (packed_word f at 0 % 2) 0 e)

-- a packed table that passes
pub record Good (f : List ℕ) (entries : ℕ) (t : Packed) : Type 0 where
  pub counted : t.places ≡ length (packed_before f t.at t.words)
  pub even : 0 < t.words → packed_word f t.at 0 % 2 ≡ 0
  pub few : entries ≤ entry_limit → entries + t.places ≤ entry_limit
  pub short : 8 * t.words ≤ file_limit

module _ (f : List ℕ) (at entries n : ℕ) (passes : words_check f at entries n ≡ good tt) where
  even_first : 0 < n → packed_word f at 0 % 2 ≡ 0
  even_first l = go (eqb (packed_word f at 0 % 2) 0) refl
    where
      go : (b : Bool) → eqb (packed_word f at 0 % 2) 0 ≡ b → packed_word f at 0 % 2 ≡ 0
      go true q = eqb-true _ _ q
      go false q =
          let x = bad_bitmap f at entries (eqb-false _ _ q) in
          let y = faultless_all (bad_word f at entries) 15 n passes 0 l in
          search never

  few_places : entries ≤ entry_limit → entries + length (packed_before f at n) ≤ entry_limit
  few_places l = go n refl
    where
      go : (k : ℕ) → n ≡ k → entries + length (packed_before f at k) ≤ entry_limit
      go zero q = let z = ap {A = List Named} length (before_none f at) in omega arith
      go (suc k) q =
          let b = faultless_all (bad_word f at entries) 15 n passes k (omega arith) in
          let m = sym (bad_many f at entries k (even_first (omega arith))) ∙ b in
          subst (λ (x : ℕ). entries + length (packed_before f at x) ≤ entry_limit) (add-one k) (ltb-false entry_limit _ m)

pub packed_good : (f : List ℕ) (h : Headers) (d : Dynamic) (r : Relocations) (t : Packed) → packed_of f h d r ≡ good t → Good f r.entries t
unfolding packed_of
packed_good f h d r t e =
    let n = packed_bytes f d / 8 in
    let a = and_then_good (backed 15 0 (table_backing f h (packed_address f d) (packed_bytes f d))) _ e in
    let b = and_then_good (words_check f a.value r.entries n) _ a.rest in
    let s = table_short f h (packed_address f d) (packed_bytes f d) a.value (backed_good 15 0 a.value _ a.here) in
    good_same (Good f r.entries) (packed_at f a.value n) t b.rest
    (record {
      counted = refl;
      even = even_first f a.value r.entries n b.here;
      few = few_places f a.value r.entries n b.here;
      short = omega arith;
    })
