-- The packed places of a module are those that its words name: the run before a word is told by the last even word before it.
-- Assumes nothing.
use Prim.Native.Nat.{ℕ, zero, suc, ◌+◌, ◌*◌, ◌-◌, ◌/◌, ◌%◌, ◌^◌, ◌<◌}
use mathlib.Core.Path.{◌≡◌, refl, sym, ap, ◌∙◌, subst}
use mathlib.Core.Bool.{Bool, true, false, cond}
use mathlib.Core.List.{List, [], ◌∷◌, map}
use mathlib.Core.Logic.{◌⊎◌, inl, inr, ⊎_elim}
use native.Mathlib.Nat.{eq-or-lt_of_le, le_of_suc-le-suc}
use native.Mathlib.Numerals.{add-one}
use native.Mathlib.Omega.{arith}
use lib.ListN.{length, get_or, length-map, get_or-map}
use lib.Dec.{eqb}
use borrow.Author.Tests.{eqb-true, eqb-false, eq-eqb, ne_eqb}
use Rattle.rules.specs.Packed.{Named, named, packed_word, is_place, bitmap_bits, places_in, places_of, run_after, packed_before}
use Rattle.laws.proofs.Packed.{Each, Ordered, Stands, each_map, each_append, ordered_append, stands_left, stands_right}
use Rattle.laws.proofs.Packed.{BitAt, bit_next, bits_each, bits_ordered, bits_stand, run_before, places_at, before_none, before_more, run_next}
use Rattle.demands.specs.Packed.{word, Names, by_place, by_bit}

-- a place with its word's index comes before another
abbrev pub Earlier : Named → Named → Type 0
Earlier x y = (x.word < y.word) ⊎ ((x.word ≡ y.word) × (x.place < y.place))

-- ---- the places of one word, each with the word's index

each_named : (P : ℕ → Type 0) (Q : Named → Type 0) (k : ℕ) (ps : List ℕ) → ((p : ℕ) → P p → Q (named k p)) → Each P ps
    → Each Q (map (named k) ps)
each_named P Q k [] h e = tt
each_named P Q k (p ∷ ps) h e = (h p e.0, each_named P Q k ps h e.1)

ordered_named : (k : ℕ) (ps : List ℕ) → Ordered ◌<◌ ps → Ordered Earlier (map (named k) ps)
ordered_named k [] o = tt
ordered_named k (p ∷ ps) o = (each_named (◌<◌ p) (Earlier (named k p)) k ps (λ q l. inr (refl, l)) o.0, ordered_named k ps o.1)

stands_named : (k : ℕ) (ps : List ℕ) (p : ℕ) → Stands 0 ps p → Stands (named k 0) (map (named k) ps) (named k p)
stands_named k ps p s = record {
  at = s.at;
  below = let e = length-map ps (named k) in let l = s.below in omega arith;
  here = get_or-map (named k) ps s.at 0 ∙ ap (named k) s.here;
}

-- where one stands does not hang on what stands for none
stands_any : {A : Type 0} (d e : A) (xs : List A) (x : A) → Stands d xs x → Stands e xs x
stands_any {A} d e xs x s = record { at = s.at; below = s.below; here = same xs s.at s.below ∙ s.here }
  where
    same : (xs : List A) (i : ℕ) → i < length xs → get_or xs i e ≡ get_or xs i d
    same [] i l = absurd (omega arith)
    same (x ∷ xs) zero l = refl
    same (x ∷ xs) (suc i) l = same xs i (le_of_suc-le-suc l)

odd : (w : ℕ) → (w % 2 ≡ 0 → ⊥) → w % 2 ≡ 1
odd w h = omega arith

module _ (f : List ℕ) (at : ℕ) where
  -- ---- the run

  -- after word j, the last even one, there were bitmaps only
  run_from : (k j : ℕ) → j < k → word f at j % 2 ≡ 0 → ((x : ℕ) → j < x → x < k → word f at x % 2 ≡ 1)
      → run_before f at k ≡ word f at j + 8 + 504 * (k - (j + 1))
  unfolding run_after
  run_from zero j l e o = absurd (omega arith)
  run_from (suc k) j l e o =
      ⊎_elim
      (λ (q : j ≡ k).
      let z = run_next f at k in
      let t = rw q at e in
      let s : k - (k + 1) ≡ 0 = omega arith in
      rw (← add-one, q) (z ∙ rw (eq-eqb (word f at k % 2) 0 t) (omega arith)))
      (λ (q : j < k).
      let ih = run_from k j q e (λ x a b. o x a (omega arith)) in
      let t = o k q (omega arith) in
      let z = run_next f at k in
      rw (← add-one) (z ∙ rw (ne_eqb (word f at k % 2) 0 (λ b. omega arith)) (omega arith)))
      (eq-or-lt_of_le (le_of_suc-le-suc l))

  -- the last even word before one
  record LastEven (k : ℕ) : Type 0 where
    index : ℕ
    before : index < k
    even : word f at index % 2 ≡ 0
    bitmaps : (x : ℕ) → index < x → x < k → word f at x % 2 ≡ 1

  last_even : (k : ℕ) → 0 < k → word f at 0 % 2 ≡ 0 → LastEven k
  last_even zero l e = absurd (omega arith)
  last_even (suc k) l e = go (eqb (word f at k % 2) 0) refl (last_even k)
    where
      go : (b : Bool) → eqb (word f at k % 2) 0 ≡ b → (0 < k → word f at 0 % 2 ≡ 0 → LastEven k) → LastEven (suc k)
      go true q again = record { index = k; before = omega arith; even = eqb-true _ _ q; bitmaps = λ x a b. absurd (omega arith) }
      go false q again =
          let n = eqb-false (word f at k % 2) 0 q in
          ⊎_elim
          (λ (z : 0 ≡ k). absurd (n (rw (← z) e)))
          (λ (z : 0 < k).
          let r = again z e in
          record {
            index = r.index;
            before = let b = r.before in omega arith;
            even = r.even;
            bitmaps = λ x a b. ⊎_elim
                (λ (y : x ≡ k). rw y (odd (word f at k) n))
                (λ (y : x < k). r.bitmaps x a y)
                (eq-or-lt_of_le (le_of_suc-le-suc b));
          })
          (eq-or-lt_of_le (omega arith))

  -- ---- what a word names

  names_each : (k : ℕ) → word f at 0 % 2 ≡ 0 → Each (Names f at k) (places_of (run_before f at k) (packed_word f at k))
  unfolding places_of
  names_each k e = go (is_place (word f at k)) refl
    where
      P : List ℕ
      P = places_in bitmap_bits (run_before f at k) (word f at k / 2)

      go : (b : Bool) → is_place (word f at k) ≡ b → Each (Names f at k) (cond b (word f at k ∷ []) P)
      go true q = (by_place (eqb-true _ _ q) refl, tt)
      go false q =
          let n = odd (word f at k) (eqb-false _ _ q) in
          ⊎_elim
          (λ (z : 0 ≡ k). absurd (let t = rw (← z) at n in omega arith))
          (λ (z : 0 < k).
          let r = last_even k z e in
          let run = run_from k r.index r.before r.even r.bitmaps in
          each_map (BitAt bitmap_bits (run_before f at k) (word f at k / 2)) (Names f at k) P
          (λ p b.
          by_bit r.index (b.bit + 1) r.before r.even
          (λ x u v. ⊎_elim (λ (y : x ≡ k). rw y n) (λ (y : x < k). r.bitmaps x u y) (eq-or-lt_of_le v))
          (omega arith) (let l = b.below in omega arith)
          (ap (λ (x : ℕ). x % 2) (bit_next (word f at k) b.bit) ∙ b.set)
          (let q = b.place in omega arith))
          (bits_each bitmap_bits (run_before f at k) (word f at k / 2)))
          (eq-or-lt_of_le (omega arith))

  names_ordered : (k : ℕ) → Ordered ◌<◌ (places_of (run_before f at k) (packed_word f at k))
  unfolding places_of
  names_ordered k = go (is_place (word f at k))
    where
      go : (b : Bool) → Ordered ◌<◌ (cond b (word f at k ∷ []) (places_in bitmap_bits (run_before f at k) (word f at k / 2)))
      go true = (tt, tt)
      go false = bits_ordered bitmap_bits (run_before f at k) (word f at k / 2)

  names_stand : (k p : ℕ) → Names f at k p → Stands 0 (places_of (run_before f at k) (packed_word f at k)) p
  unfolding places_of
  names_stand k p (by_place e q) = rw (eq-eqb (word f at k % 2) 0 e, q) (record { at = 0; below = omega arith; here = refl })
  names_stand k p (by_bit j i l e o a b s q) =
      let n = o k l (omega arith) in
      let run = run_from k j l e (λ x u v. o x u (omega arith)) in
      let t : i - 1 + 1 ≡ i = omega arith in
      let c = ap (λ (x : ℕ). x % 2) (sym (bit_next (word f at k) (i - 1)) ∙ ap (λ (x : ℕ). word f at k / 2 ^ x) t) ∙ s in
      let h = bits_stand bitmap_bits (run_before f at k) (word f at k / 2) (i - 1) (omega arith) c in
      let z : run_before f at k + 8 * (i - 1) ≡ p = omega arith in
      rw (ne_eqb (word f at k % 2) 0 (λ y. omega arith)) (rw z at h)

  -- ---- what the words below an index name

  -- a place that is named by its word, one of those below an index
  abbrev pub NamedBelow : ℕ → Named → Type 0
  NamedBelow k x = (x.word < k) × Names f at x.word x.place

  pub before_each : (k : ℕ) → word f at 0 % 2 ≡ 0 → Each (NamedBelow k) (packed_before f at k)
  before_each zero e = rw (before_none f at) tt
  before_each (suc k) e =
      let P = packed_before f at k in
      let W = places_of (run_before f at k) (packed_word f at k) in
      subst (λ (x : ℕ). Each (NamedBelow x) (packed_before f at x)) (add-one k)
      (rw (before_more f at k)
      (each_append (NamedBelow (k + 1)) P (places_at f at (run_before f at k) k)
      (each_map (NamedBelow k) (NamedBelow (k + 1)) P (λ x h. (let l = h.0 in omega arith, h.1)) (before_each k e))
      (each_named (Names f at k) (NamedBelow (k + 1)) k W (λ p h. (omega arith, h)) (names_each k e))))

  pub before_ordered : (k : ℕ) → word f at 0 % 2 ≡ 0 → Ordered Earlier (packed_before f at k)
  before_ordered zero e = rw (before_none f at) tt
  before_ordered (suc k) e =
      let P = packed_before f at k in
      let W = places_of (run_before f at k) (packed_word f at k) in
      subst (λ (x : ℕ). Ordered Earlier (packed_before f at x)) (add-one k)
      (rw (before_more f at k)
      (ordered_append Earlier P (places_at f at (run_before f at k) k) (before_ordered k e) (ordered_named k W (names_ordered k))
      (each_map (NamedBelow k) (λ x. Each (Earlier x) (places_at f at (run_before f at k) k)) P
      (λ x h. each_named (Names f at k) (Earlier x) k W (λ p _. inl h.0) (names_each k e)) (before_each k e))))

  pub before_stands : (n k p : ℕ) → k < n → Names f at k p → Stands (named 0 0) (packed_before f at n) (named k p)
  before_stands zero k p l h = absurd (omega arith)
  before_stands (suc n) k p l h =
      let P = packed_before f at n in
      rw (← add-one, before_more f at n)
      (⊎_elim
      (λ (q : k ≡ n).
      rw (← q) (stands_right (packed_before f at k) (places_at f at (run_before f at k) k)
      (stands_any (named k 0) (named 0 0) _ (named k p) (stands_named k _ p (names_stand k p h)))))
      (λ (q : k < n). stands_left P (places_at f at (run_before f at n) n) (before_stands n k p q h))
      (eq-or-lt_of_le (le_of_suc-le-suc l)))
