-- Laws of packed words: how many places they name, and which is the first bad one.
-- Assumes nothing.
use Prim.Native.Nat.{ℕ, zero, suc, ◌+◌, ◌*◌, ◌/◌, ◌%◌, ◌-◌, ◌^◌, ◌≤◌, ◌<◌}
use mathlib.Core.Path.{◌≡◌, refl, sym, ap, ◌∙◌}
use mathlib.Core.Bool.{Bool, true, false, cond}
use mathlib.Core.List.{List, [], ◌∷◌, ◌++◌}
use native.Mathlib.Nat.{pow-suc, sub-zero}
use native.Mathlib.Omega.{arith}
use lib.ListN.{length}
use lib.Dec.{eqb}
use lib.Count.{ones, ones_step, ones-le}
use borrow.Author.Tests.{lt-ltb, le-ltb, eqb-true, eqb-false}
use Rattle.rules.specs.Outcome.{good, bad, refuse, and_then}
use Rattle.rules.specs.Checks.{Check}
use Rattle.rules.specs.Limits.{entry_limit}
use Rattle.rules.specs.First.{first}
use Rattle.rules.specs.Packed.{is_place, places_in, places_of, packed_word, packed_from, packed_before, bad_word, words_check, packed_at}
use Rattle.rules.proofs.FirstLaws.{first_step, first-hit, first_none, faultless-hit, faultless_none}
use Rattle.laws.proofs.Packed.{run_before, before_length}
use Rattle.laws.proofs.PackedTable.{bad_many, bad_bitmap}
use Rattle.relr.specs.Count.{count_of, count_in}

-- ---- a word: as many places as bits are set, wherever the run stands

ones_zero : (n : ℕ) → n < 1 → ones n ≡ 0
ones_zero n h = let k : ones n ≤ 0 = ones-le 0 n h in omega arith

pub bits_places : (n at bits : ℕ) → bits < 2 ^ n → length (places_in n at bits) ≡ ones bits
unfolding places_in
bits_places zero at bits h = sym (ones_zero bits h)
bits_places (suc n) at bits h =
    let p : 2 ^ suc n ≡ 2 ^ n * 2 = pow-suc 2 n in
    go (eqb (bits % 2) 1) refl (bits_places n (at + 8) (bits / 2) (omega arith)) (ones_step bits)
  where
    go : (b : Bool) → eqb (bits % 2) 1 ≡ b → length (places_in n (at + 8) (bits / 2)) ≡ ones (bits / 2)
        → ones bits ≡ bits % 2 + ones (bits / 2) → length (cond b (at ∷ []) [] ++ places_in n (at + 8) (bits / 2)) ≡ ones bits
    go true e r s = let x = eqb-true (bits % 2) 1 e in omega arith
    go false e r s = let x = eqb-false (bits % 2) 1 e in omega arith

pub word_places : (run w : ℕ) → w < 2 ^ 64 → length (places_of run w) ≡ count_of w
unfolding places_of count_of
word_places run w h = go (is_place w) refl
  where
    go : (b : Bool) → is_place w ≡ b → length (cond b (w ∷ []) (places_in 63 run (w / 2))) ≡ cond b 1 (ones w - 1)
    go true e = refl
    go false e =
        let x = eqb-false (w % 2) 0 e in
        let s = ones_step w in
        let r = bits_places 63 run (w / 2) (omega arith) in
        omega arith

-- an odd word has its lowest bit
pub ones_odd : (w : ℕ) → (w % 2 ≡ 0 → ⊥) → w < 2 ^ 64 → (1 ≤ ones w) × (ones w ≤ 64)
ones_odd w e h = let s = ones_step w in (omega arith, ones-le 64 w h)

-- a bitmap of no place
pub empty_bitmap : count_of 1 ≡ 0
unfolding count_of
empty_bitmap = let s = ones_step 1 in let z = ones_zero (1 / 2) (omega arith) in omega arith

-- ---- a table: one word more

pub packed_more : (f : List ℕ) (at k : ℕ) → packed_word f at k < 2 ^ 64
    → length (packed_before f at (k + 1)) ≡ length (packed_before f at k) + count_of (packed_word f at k)
packed_more f at k h =
    before_length f at k ∙ ap (λ (x : ℕ). length (packed_before f at k) + x) (word_places (run_before f at k) (packed_word f at k) h)

-- ---- the first bad word

pub no_words : (f : List ℕ) (at entries : ℕ) → count_in f at 0 entries ≡ good 0
unfolding first packed_from
no_words f at entries = refl

-- a bitmap first is bad
pub odd_first : (f : List ℕ) (at words entries w : ℕ) → 0 < words → w ≡ packed_word f at 0 → (w % 2 ≡ 0 → ⊥)
    → count_in f at words entries ≡ refuse 15 0
odd_first f at words entries w l e o =
    let t = bad_word f at entries in
    let b = bad_bitmap f at entries (rw (← e) o) in
    let hit : first t 0 words ≡ 0 = rw sub-zero at (first-hit t 0 words l b) in
    rw (faultless-hit 15 t words 0 hit l)

-- the first word is a place; the words below k are good, and name so many places that they and the entries are the total
pub record Counting (f : List ℕ) (at words entries k total : ℕ) : Type 0 where
  pub even : packed_word f at 0 % 2 ≡ 0
  pub seen : k ≤ words
  pub sum : total ≡ entries + length (packed_before f at k)
  pub small : total < 2 ^ 32
  pub onward : first (bad_word f at entries) 0 words ≡ first (bad_word f at entries) k (words - k)

pub counting_none : (f : List ℕ) (at words entries w : ℕ) → entries < 2 ^ 32 → w ≡ packed_word f at 0 → w % 2 ≡ 0
    → Counting f at words entries 0 entries
unfolding packed_from
counting_none f at words entries w l e o =
    record { even = rw (← e) o; seen = omega arith; sum = omega arith; small = l; onward = rw sub-zero }

module _ (f : List ℕ) (at words entries k total : ℕ) (c : Counting f at words entries k total) where
  -- the next word, and how many places it names
  module _ (w n : ℕ) (l : k < words) (e : w ≡ packed_word f at k) (m : n ≡ count_of w) (b : w < 2 ^ 64) where
    sum_next : total + n ≡ entries + length (packed_before f at (k + 1))
    sum_next =
        let s = c.sum in
        let p : length (packed_before f at (k + 1)) ≡ length (packed_before f at k) + n = packed_more f at k (rw e at b) ∙ rw (m, e) in
        omega arith

    pub counting_next : total + n ≤ entry_limit → Counting f at words entries (k + 1) (total + n)
    counting_next h =
        let t = bad_word f at entries in
        let fine : t k ≡ false = bad_many f at entries k c.even ∙ rw (← sum_next) (le-ltb entry_limit (total + n) h) in
        record {
          even = c.even;
          seen = omega arith;
          sum = sum_next;
          small = omega arith;
          onward = c.onward ∙ first_step t k words l fine;
        }

    pub counting_over : entry_limit < total + n → count_in f at words entries ≡ refuse 15 k
    counting_over h =
        let t = bad_word f at entries in
        let over : t k ≡ true = bad_many f at entries k c.even ∙ rw (← sum_next) (lt-ltb entry_limit (total + n) h) in
        rw (faultless-hit 15 t words k (c.onward ∙ first-hit t k words l over) l)

  pub counting_all : words ≤ k → count_in f at words entries ≡ good (total - entries)
  counting_all h =
      let t = bad_word f at entries in
      let s = c.sum in
      let e : k ≡ words = omega arith in
      let n : length (packed_before f at words) ≡ total - entries = rw (← e) (omega arith) in
      rw (faultless_none 15 t words (c.onward ∙ first_none t k words c.seen h), n)

-- ---- the table by the count of its places

pub packed_count_lem : (f : List ℕ) (at words entries : ℕ) → and_then (words_check f at entries words) (λ _. good (packed_at f at words))
    ≡ and_then (count_in f at words entries) (λ n. good (record { at = at; words = words; places = n }))
packed_count_lem f at words entries = go (words_check f at entries words)
  where
    go : (o : Check) → and_then o (λ _. good (packed_at f at words))
        ≡ and_then (and_then o (λ _. good (length (packed_before f at words)))) (λ n. good (record { at = at; words = words; places = n }))
    go (good u) = refl
    go (bad r) = refl
