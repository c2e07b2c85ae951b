-- The places of packed words: what stands at each index, in which order, and how the list grows with the words.
-- Assumes nothing.
use Prim.Native.Nat.{ℕ, zero, suc, ◌+◌, ◌*◌, ◌/◌, ◌%◌, ◌^◌, ◌≤◌, ◌<◌}
use mathlib.Core.Path.{◌≡◌, refl, sym, ap, ◌∙◌}
use mathlib.Core.Bool.{Bool, true, false, cond}
use mathlib.Core.List.{List, [], ◌∷◌, ◌++◌, map}
use mathlib.Core.Logic.{⊎_elim}
use native.Mathlib.Nat.{zero-add, add-zero, pow-succ', div-one, div-div-eq-div-mul, eq-or-lt_of_le, le_of_suc-le-suc}
use native.Mathlib.Numerals.{add-one}
use native.Mathlib.Omega.{arith}
use lib.ListN.{length, get_or, length-append, length-map, get_or-append}
use lib.Seq.{get_or-append-add}
use lib.Dec.{eqb}
use borrow.Author.Tests.{eqb-true, eq-eqb}
use Rattle.rules.specs.Packed.{Named, named, packed_word, places_in, places_of, run_after, packed_from, packed_before}

-- ---- lists: what holds of each, in what order they are, and where one stands

module _ {A : Type 0} where
  abbrev pub Each : (A → Type 0) → List A → Type 0
  Each P [] = Unit
  Each P (x ∷ xs) = P x × Each P xs

  abbrev pub Ordered : (A → A → Type 0) → List A → Type 0
  Ordered R [] = Unit
  Ordered R (x ∷ xs) = Each (R x) xs × Ordered R xs

  pub record Stands (d : A) (xs : List A) (x : A) : Type 0 where
    pub at : ℕ
    pub below : at < length xs
    pub here : get_or xs at d ≡ x

  pub each_map : (P Q : A → Type 0) (xs : List A) → ((x : A) → P x → Q x) → Each P xs → Each Q xs
  each_map P Q [] h e = tt
  each_map P Q (x ∷ xs) h e = (h x e.0, each_map P Q xs h e.1)

  pub each_append : (P : A → Type 0) (xs ys : List A) → Each P xs → Each P ys → Each P (xs ++ ys)
  each_append P [] ys a b = b
  each_append P (x ∷ xs) ys a b = (a.0, each_append P xs ys a.1 b)

  pub each_at : (P : A → Type 0) (d : A) (xs : List A) → Each P xs → (i : ℕ) → i < length xs → P (get_or xs i d)
  each_at P d [] e i l = absurd (omega arith)
  each_at P d (x ∷ xs) e zero l = e.0
  each_at P d (x ∷ xs) e (suc i) l = each_at P d xs e.1 i (le_of_suc-le-suc l)

  pub ordered_append : (R : A → A → Type 0) (xs ys : List A) → Ordered R xs → Ordered R ys → Each (λ x. Each (R x) ys) xs → Ordered R (xs ++ ys)
  ordered_append R [] ys a b c = b
  ordered_append R (x ∷ xs) ys a b c = (each_append (R x) xs ys a.0 c.0, ordered_append R xs ys a.1 b c.1)

  pub ordered_at : (R : A → A → Type 0) (d : A) (xs : List A) → Ordered R xs → (i j : ℕ) → i < j → j < length xs → R (get_or xs i d) (get_or xs j d)
  ordered_at R d [] o i j l u = absurd (omega arith)
  ordered_at R d (x ∷ xs) o zero zero l u = absurd (omega arith)
  ordered_at R d (x ∷ xs) o zero (suc j) l u = each_at (R x) d xs o.0 j (le_of_suc-le-suc u)
  ordered_at R d (x ∷ xs) o (suc i) zero l u = absurd (omega arith)
  ordered_at R d (x ∷ xs) o (suc i) (suc j) l u = ordered_at R d xs o.1 i j (le_of_suc-le-suc l) (le_of_suc-le-suc u)

  pub stands_left : {d : A} (xs ys : List A) {x : A} → Stands d xs x → Stands d (xs ++ ys) x
  stands_left {d} xs ys s = record {
    at = s.at;
    below = let e = length-append xs ys in let l = s.below in omega arith;
    here = get_or-append xs ys d s.at s.below ∙ s.here;
  }

  pub stands_right : {d : A} (xs ys : List A) {x : A} → Stands d ys x → Stands d (xs ++ ys) x
  stands_right {d} xs ys s = record {
    at = length xs + s.at;
    below = let e = length-append xs ys in let l = s.below in omega arith;
    here = get_or-append-add xs ys s.at d ∙ s.here;
  }

  append_assoc : (xs ys zs : List A) → (xs ++ ys) ++ zs ≡ xs ++ (ys ++ zs)
  append_assoc [] ys zs = refl
  append_assoc (x ∷ xs) ys zs = ap {B = List A} (λ r. x ∷ r) (append_assoc xs ys zs)

  append-nil : (xs : List A) → xs ++ [] ≡ xs
  append-nil [] = refl
  append-nil (x ∷ xs) = ap {B = List A} (λ r. x ∷ r) (append-nil xs)

-- ---- the places of a bitmap

-- a place that bit b of n names
pub record BitAt (n at bits p : ℕ) : Type 0 where
  pub bit : ℕ
  pub below : bit < n
  pub set : bits / 2 ^ bit % 2 ≡ 1
  pub place : p ≡ at + 8 * bit

pub bit_next : (bits b : ℕ) → bits / 2 ^ (b + 1) ≡ bits / 2 / 2 ^ b
bit_next bits b = ap (λ (x : ℕ). bits / x) (ap (λ (x : ℕ). 2 ^ x) (add-one b) ∙ pow-succ' 2 b) ∙ sym (div-div-eq-div-mul bits 2 (2 ^ b))

-- the place of the lowest bit, then those of the others
module _ (n at bits : ℕ) where
  abbrev lowest : Bool → List ℕ
  lowest b = cond b (at ∷ []) []

  later : (p : ℕ) → BitAt n (at + 8) (bits / 2) p → BitAt (suc n) at bits p
  later p e = record {
    bit = e.bit + 1;
    below = let l = e.below in omega arith;
    set = ap (λ (x : ℕ). x % 2) (bit_next bits e.bit) ∙ e.set;
    place = let q = e.place in omega arith;
  }

pub bits_each : (n at bits : ℕ) → Each (BitAt n at bits) (places_in n at bits)
unfolding places_in
bits_each zero at bits = tt
bits_each (suc n) at bits =
    each_append (BitAt (suc n) at bits) (lowest n at bits (eqb (bits % 2) 1)) (places_in n (at + 8) (bits / 2)) (go (eqb (bits % 2) 1) refl)
    (each_map (BitAt n (at + 8) (bits / 2)) (BitAt (suc n) at bits) (places_in n (at + 8) (bits / 2)) (later n at bits) (bits_each n (at + 8) (bits / 2)))
  where
    go : (b : Bool) → eqb (bits % 2) 1 ≡ b → Each (BitAt (suc n) at bits) (lowest n at bits b)
    go true q = (
      record {
        bit = 0;
        below = omega arith;
        set = ap (λ (x : ℕ). x % 2) (div-one bits) ∙ eqb-true (bits % 2) 1 q;
        place = omega arith;
      },
      tt,
    )
    go false q = tt

pub bits_ordered : (n at bits : ℕ) → Ordered ◌<◌ (places_in n at bits)
unfolding places_in
bits_ordered zero at bits = tt
bits_ordered (suc n) at bits =
    ordered_append ◌<◌ (lowest n at bits (eqb (bits % 2) 1)) (places_in n (at + 8) (bits / 2)) (one (eqb (bits % 2) 1))
    (bits_ordered n (at + 8) (bits / 2)) (go (eqb (bits % 2) 1))
  where
    one : (b : Bool) → Ordered ◌<◌ (lowest n at bits b)
    one true = (tt, tt)
    one false = tt

    above : (p : ℕ) → BitAt n (at + 8) (bits / 2) p → at < p
    above p e = let q = e.place in omega arith

    go : (b : Bool) → Each (λ x. Each (◌<◌ x) (places_in n (at + 8) (bits / 2))) (lowest n at bits b)
    go true = (each_map (BitAt n (at + 8) (bits / 2)) (◌<◌ at) (places_in n (at + 8) (bits / 2)) above (bits_each n (at + 8) (bits / 2)), tt)
    go false = tt

pub bits_stand : (n at bits b : ℕ) → b < n → bits / 2 ^ b % 2 ≡ 1 → Stands 0 (places_in n at bits) (at + 8 * b)
unfolding places_in
bits_stand zero at bits b l e = absurd (omega arith)
bits_stand (suc n) at bits zero l e =
    let q = eq-eqb (bits % 2) 1 (ap (λ (x : ℕ). x % 2) (sym (div-one bits)) ∙ e) in
    rw q (record { at = 0; below = omega arith; here = omega arith })
bits_stand (suc n) at bits (suc b) l e =
    let z = bit_next bits b in
    let s = bits_stand n (at + 8) (bits / 2) b (le_of_suc-le-suc l)
    (ap (λ (x : ℕ). x % 2) (sym (bit_next bits b) ∙ ap (λ (x : ℕ). bits / 2 ^ x) (add-one b)) ∙ e) in
    let q : at + 8 * suc b ≡ at + 8 + 8 * b = omega arith in
    stands_right (lowest n at bits (eqb (bits % 2) 1)) (places_in n (at + 8) (bits / 2)) (rw q s)

-- ---- the words

module _ (f : List ℕ) (at : ℕ) where
  -- the run before a word of n from the index k on
  unfoldable pub run_on : ℕ → ℕ → ℕ → ℕ
  run_on run k zero = run
  run_on run k (suc n) = run_on (run_after run (packed_word f at k)) (k + 1) n

  -- the places of one word, with its index
  abbrev pub places_at : ℕ → ℕ → List Named
  places_at run k = map (named k) (places_of run (packed_word f at k))

  from_more : (n run k : ℕ) → packed_from f at run k (suc n) ≡ packed_from f at run k n ++ places_at (run_on run k n) (k + n)
  unfolding packed_from run_on
  from_more zero run k = rw add-zero (append-nil (places_at run k))
  from_more (suc n) run k =
      let ih = from_more n (run_after run (packed_word f at k)) (k + 1) in
      let q : k + 1 + n ≡ k + suc n = omega arith in
      ap (λ (r : List Named). places_at run k ++ r) (rw q at ih) ∙ sym (append_assoc (places_at run k) _ _)

  -- the run before word k of the table
  abbrev pub run_before : ℕ → ℕ
  run_before k = run_on 0 0 k

  pub before_none : packed_before f at 0 ≡ []
  unfolding packed_from
  before_none = refl

  pub before_more : (k : ℕ) → packed_before f at (k + 1) ≡ packed_before f at k ++ places_at (run_before k) k
  before_more k = ap (packed_before f at) (add-one k) ∙ from_more k 0 0 ∙ ap (λ (x : ℕ). packed_before f at k ++ places_at (run_before k) x) (zero-add k)

  run_more : (n run k : ℕ) → run_on run k (suc n) ≡ run_after (run_on run k n) (packed_word f at (k + n))
  unfolding run_on
  run_more zero run k = rw add-zero
  run_more (suc n) run k =
      let ih = run_more n (run_after run (packed_word f at k)) (k + 1) in
      let q : k + 1 + n ≡ k + suc n = omega arith in
      rw q at ih

  pub run_next : (k : ℕ) → run_before (k + 1) ≡ run_after (run_before k) (packed_word f at k)
  run_next k = ap run_before (add-one k) ∙ run_more k 0 0 ∙ ap (λ (x : ℕ). run_after (run_before k) (packed_word f at x)) (zero-add k)

  -- more words have no fewer places
  pub before_length : (k : ℕ) → length (packed_before f at (k + 1)) ≡ length (packed_before f at k) + length (places_of (run_before k) (packed_word f at k))
  before_length k =
      ap {A = List Named} length (before_more k) ∙ length-append (packed_before f at k) _
      ∙ ap (λ (x : ℕ). length (packed_before f at k) + x) (length-map (places_of (run_before k) (packed_word f at k)) (named k))

  pub before_grows : (n k : ℕ) → k ≤ n → length (packed_before f at k) ≤ length (packed_before f at n)
  before_grows zero k l = let q : k ≡ 0 = omega arith in rw q (omega arith)
  before_grows (suc n) k l =
      ⊎_elim
      (λ (q : k ≡ suc n). rw q (omega arith))
      (λ (q : k < suc n).
      let ih = before_grows n k (le_of_suc-le-suc q) in
      let z = before_length n in
      let y : length (packed_before f at (suc n)) ≡ length (packed_before f at (n + 1)) = ap (λ (x : ℕ). length (packed_before f at x)) (sym (add-one n)) in
      omega arith)
      (eq-or-lt_of_le l)
