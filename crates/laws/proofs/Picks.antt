-- Tags that suit: where there are as many as are needed there is one for each global, and the search finds it.
-- Assumes nothing.
use Prim.Native.Nat.{ℕ, zero, suc, ◌+◌, ◌-◌, ◌%◌, ◌≤◌, ◌<◌}
use mathlib.Core.Path.{◌≡◌, refl, ap}
use mathlib.Core.Bool.{Bool, true, false, cond, not}
use mathlib.Core.List.{List, [], ◌∷◌}
use mathlib.Core.Logic.{◌⊎◌, inl, inr, ⊎_elim}
use native.Mathlib.Nat.{eq-or-lt_of_le}
use native.Mathlib.Numerals.{add-one}
use native.Mathlib.Omega.{arith}
use lib.ListN.{length, get_or, drop, drop_of_length-le}
use lib.Seq.{drop-cons}
use lib.Dec.{eqb}
use borrow.Author.Tests.{ne_eqb, eqb-true, eqb-false, not-true, ltb-true}
use Rattle.rules.specs.First.{first, some_below, count_below}
use Rattle.rules.specs.Picker.{tag_count, allowed, tag_up, barred_at, suits, pick_of, picks_from, abuts_at, tags_needed, tags_allowed}
use Rattle.rules.proofs.OutcomeLaws.{false_true, and_left}
use Rattle.rules.proofs.FirstLaws.{at_some, first_true, first_is}
use Rattle.rules.proofs.BoolLaws.{cond_case}
use Rattle.laws.proofs.Checks.{le_or_lt, some_at}

-- ---- counts

module _ (f : ℕ → Bool) where
  -- an index below n, other than b, at which f holds
  pub record Other (n b : ℕ) : Type 0 where
    pub index : ℕ
    pub below : index < n
    pub holds : f index ≡ true
    pub other : index ≡ b → ⊥

  more : (n b : ℕ) → Other n b → Other (suc n) b
  more n b o = let l = o.below in record { index = o.index; below = omega arith; holds = o.holds; other = o.other }

  -- one, which is below n
  pub count_one : (n : ℕ) → 1 ≤ count_below f n → Other n n
  unfolding count_below
  count_one zero h = absurd (omega arith)
  count_one (suc n) h = go (f n) refl h (count_one n)
    where
      go : (x : Bool) → f n ≡ x → 1 ≤ count_below f n + cond x 1 0 → (1 ≤ count_below f n → Other n n) → Other (suc n) (suc n)
      go true e c again = record { index = n; below = omega arith; holds = e; other = λ q. omega arith }
      go false e c again =
          let o = again (omega arith) in
          let l = o.below in
          record { index = o.index; below = omega arith; holds = o.holds; other = λ q. omega arith }

  -- of two, one is not b
  pub count_other : (n b : ℕ) → 2 ≤ count_below f n → Other n b
  unfolding count_below
  count_other zero b h = absurd (omega arith)
  count_other (suc n) b h = go (f n) (eqb n b) refl refl h (count_other n b)
    where
      go : (x y : Bool) → f n ≡ x → eqb n b ≡ y → 2 ≤ count_below f n + cond x 1 0 → (2 ≤ count_below f n → Other n b) → Other (suc n) b
      go false y e q c again = more n b (again (omega arith))
      go true false e q c again = record { index = n; below = omega arith; holds = e; other = eqb-false n b q }
      go true true e q c again =
          let o = count_one n (omega arith) in
          let l = o.below in
          let s = eqb-true n b q in
          record { index = o.index; below = omega arith; holds = o.holds; other = λ z. omega arith }

  -- and back
  at_or_below : (i n : ℕ) → i < suc n → (i ≡ n) ⊎ (i < n)
  at_or_below i n l = eq-or-lt_of_le (omega arith)

  pub count_some : (n i : ℕ) → i < n → f i ≡ true → 1 ≤ count_below f n
  unfolding count_below
  count_some zero i l e = absurd (omega arith)
  count_some (suc n) i l e =
      ⊎_elim (λ (s : i ≡ n). rw (rw s at e) (omega arith)) (λ (s : i < n). let c = count_some n i s e in omega arith) (at_or_below i n l)

  count_rising : (n i j : ℕ) → i < j → j < n → f i ≡ true → f j ≡ true → 2 ≤ count_below f n
  unfolding count_below
  count_rising zero i j l k e d = absurd (omega arith)
  count_rising (suc n) i j l k e d =
      ⊎_elim
      (λ (s : j ≡ n). let c = count_some n i (omega arith) e in rw (rw s at d) (omega arith))
      (λ (s : j < n). let c = count_rising n i j l s e d in omega arith)
      (at_or_below j n k)

  pub count_two : (n i j : ℕ) → (i ≡ j → ⊥) → i < n → j < n → f i ≡ true → f j ≡ true → 2 ≤ count_below f n
  count_two n i j d k l e h =
      ⊎_elim
      (λ (s : i ≤ j). ⊎_elim (λ (q : i ≡ j). absurd (d q)) (λ (q : i < j). count_rising n i j q l e h) (eq-or-lt_of_le s))
      (λ (s : j < i). count_rising n j i s k h e)
      (le_or_lt i j)

-- ---- one tag

-- how far up from a random byte a tag is
abbrev pub up_to : ℕ → ℕ → ℕ
up_to random tag = (tag + tag_count - random % tag_count) % tag_count

pub up_reaches : (random tag : ℕ) → tag < tag_count → tag_up random (up_to random tag) ≡ tag
up_reaches random tag l = omega arith

pub pick_low : (x b random : ℕ) → pick_of x b random < tag_count
unfolding pick_of
pick_low x b random = omega arith

-- where a tag suits the search ends before it has been all round
pub pick_near : (x b random tag : ℕ) → tag < tag_count → suits x b tag ≡ true
    → first (λ k. suits x b (tag_up random k)) 0 tag_count < tag_count
pick_near x b random tag l h =
    let f : ℕ → Bool = λ k. suits x b (tag_up random k) in
    let e : f (up_to random tag) ≡ true = rw (up_reaches random tag l) h in
    ltb-true (first f 0 tag_count) tag_count (at_some f tag_count (up_to random tag) (omega arith) e)

-- and finds one that suits
pub pick_suits : (x b random tag : ℕ) → tag < tag_count → suits x b tag ≡ true → suits x b (pick_of x b random) ≡ true
unfolding pick_of
pick_suits x b random tag l h =
    let near = pick_near x b random tag l h in
    first_true (λ k. suits x b (tag_up random k)) tag_count 0 (omega arith)

-- a tag that suits, where none on the way does, is the pick
pub pick_is : (x b random k : ℕ) → k < tag_count → suits x b (tag_up random k) ≡ true
    → ((j : ℕ) → j < k → suits x b (tag_up random j) ≡ false) → tag_up random k ≡ pick_of x b random
unfolding pick_of
pick_is x b random k l hit none =
    ap (tag_up random) (first_is (λ j. suits x b (tag_up random j)) tag_count k (omega arith) (λ _. hit) none)

pub allowed_least : (x tag : ℕ) → allowed x tag ≡ true → 1 ≤ tag
unfolding allowed
allowed_least x tag h =
    let n = eqb-false tag 0 (not-true (eqb tag 0) (and_left (not (eqb tag 0)) _ h)) in
    omega arith

-- ---- as many tags as are needed

module _ (addresses sizes : List ℕ) where
  pub needed_one : 0 < length addresses → 1 ≤ tags_needed addresses sizes
  unfolding tags_needed
  needed_one l =
      rw (ne_eqb (length addresses) 0 (λ q. omega arith))
      (cond_case (λ (k : ℕ). 1 ≤ k) (some_below (abuts_at addresses sizes) (length addresses)) 2 1 (λ _. omega arith) (λ _. omega arith))

  pub needed_two : (i : ℕ) → i < length addresses → abuts_at addresses sizes i ≡ true → tags_needed addresses sizes ≡ 2
  unfolding tags_needed
  needed_two i l e =
      rw (ne_eqb (length addresses) 0 (λ q. omega arith), at_some (abuts_at addresses sizes) (length addresses) i l e)

  -- no more than: one for a global, two where some abut
  pub needed_most : (c : ℕ) → (0 < length addresses → 1 ≤ c)
      → ((i : ℕ) → suc i < length addresses → get_or addresses i 0 + get_or sizes i 0 ≡ get_or addresses (suc i) 0 → 2 ≤ c)
      → tags_needed addresses sizes ≤ c
  unfolding tags_needed abuts_at
  needed_most c one two =
      cond_case (λ (k : ℕ). k ≤ c) (eqb (length addresses) 0) 0 _ (λ _. omega arith) (λ q.
      let n = eqb-false (length addresses) 0 q in
      let o = one (omega arith) in
      cond_case (λ (k : ℕ). k ≤ c) (some_below (abuts_at addresses sizes) (length addresses)) 2 1
      (λ s. let a = some_at (abuts_at addresses sizes) (length addresses) s in next a.0 a.1.0 a.1.1)
      (λ _. o))
    where
      next : (i : ℕ) → i < length addresses → abuts_at addresses sizes i ≡ true → 2 ≤ c
      next zero l e = false_true e
      next (suc i) l e = two i l (eqb-true _ _ e)

  -- so a tag suits, whatever is barred
  pub enough_suits : (x i b : ℕ) → tags_needed addresses sizes ≤ tags_allowed x → i < length addresses
      → (b ≡ 0) ⊎ (abuts_at addresses sizes i ≡ true) → (t : ℕ) × ((t < tag_count) × (suits x b t ≡ true))
  unfolding tags_allowed
  enough_suits x i b h l = ⊎_elim
      (λ (z : b ≡ 0).
      let n = needed_one (omega arith) in
      let o = count_one (allowed x) tag_count (omega arith) in
      let s = allowed_least x o.index o.holds in
      (o.index, (o.below, rw (o.holds, ne_eqb o.index b (λ q. omega arith)))))
      (λ (e : abuts_at addresses sizes i ≡ true).
      let n = needed_two i l e in
      let o = count_other (allowed x) tag_count b (omega arith) in
      (o.index, (o.below, rw (o.holds, ne_eqb o.index b o.other))))

-- ---- a list of picks

-- at an index
module _ (addresses sizes random : List ℕ) (i : ℕ) (l : i < length addresses) (k : i < length sizes) (m : i < length random) where
  pub picks_at : (x end last : ℕ)
      → picks_from x end last (drop i addresses) (drop i sizes) (drop i random)
      ≡ pick_of x (barred_at end last (get_or addresses i 0)) (get_or random i 0)
      ∷ picks_from x (get_or addresses i 0 + get_or sizes i 0) (pick_of x (barred_at end last (get_or addresses i 0)) (get_or random i 0))
      (drop (i + 1) addresses) (drop (i + 1) sizes) (drop (i + 1) random)
  unfolding picks_from
  picks_at x end last = rw (drop-cons addresses i 0 l, drop-cons sizes i 0 k, drop-cons random i 0 m, add-one)

pub picks_end : (x end last i : ℕ) (addresses sizes random : List ℕ) → length addresses ≤ i
    → picks_from x end last (drop i addresses) (drop i sizes) (drop i random) ≡ []
unfolding picks_from
picks_end x end last i addresses sizes random l = rw (drop_of_length-le addresses l)

pub picks_length : (x end last : ℕ) (addresses sizes random : List ℕ) → length sizes ≡ length addresses → length random ≡ length addresses
    → length (picks_from x end last addresses sizes random) ≡ length addresses
unfolding picks_from
picks_length x end last [] sizes random e d = refl
picks_length x end last (a ∷ addresses) [] random e d = absurd (omega arith)
picks_length x end last (a ∷ addresses) (s ∷ sizes) [] e d = absurd (omega arith)
picks_length x end last (a ∷ addresses) (s ∷ sizes) (r ∷ random) e d =
    ap suc (picks_length x (a + s) (pick_of x (barred_at end last a) r) addresses sizes random (omega arith) (omega arith))

-- where the global before an index ends, and its tag; of the first they are handed in
abbrev pub end_at : ℕ → List ℕ → List ℕ → ℕ → ℕ
end_at end addresses sizes zero = end
end_at end addresses sizes (suc i) = get_or addresses i 0 + get_or sizes i 0

abbrev pub tag_at : ℕ → List ℕ → ℕ → ℕ
tag_at last picks zero = last
tag_at last picks (suc i) = get_or picks i 0

-- each pick, by the one before it
pub picks_index : (x end last : ℕ) (addresses sizes random : List ℕ) (i : ℕ) → i < length addresses → length sizes ≡ length addresses
    → length random ≡ length addresses
    → get_or (picks_from x end last addresses sizes random) i 0
    ≡ pick_of x (barred_at (end_at end addresses sizes i) (tag_at last (picks_from x end last addresses sizes random) i) (get_or addresses i 0))
    (get_or random i 0)
unfolding picks_from
picks_index x end last [] sizes random i l e d = absurd (omega arith)
picks_index x end last (a ∷ addresses) [] random i l e d = absurd (omega arith)
picks_index x end last (a ∷ addresses) (s ∷ sizes) [] i l e d = absurd (omega arith)
picks_index x end last (a ∷ addresses) (s ∷ sizes) (r ∷ random) zero l e d = refl
picks_index x end last (a ∷ addresses) (s ∷ sizes) (r ∷ random) (suc zero) l e d =
    picks_index x (a + s) (pick_of x (barred_at end last a) r) addresses sizes random zero (omega arith) (omega arith) (omega arith)
picks_index x end last (a ∷ addresses) (s ∷ sizes) (r ∷ random) (suc (suc i)) l e d =
    picks_index x (a + s) (pick_of x (barred_at end last a) r) addresses sizes random (suc i) (omega arith) (omega arith) (omega arith)

-- what is barred at an index is no tag, or that of a global on which it abuts
pub barred_why : (addresses sizes picks : List ℕ) (i : ℕ)
    → (barred_at (end_at 0 addresses sizes i) (tag_at 0 picks i) (get_or addresses i 0) ≡ 0) ⊎ (abuts_at addresses sizes i ≡ true)
unfolding abuts_at
barred_why addresses sizes picks zero = inl (cond_case (λ (b : ℕ). b ≡ 0) (eqb 0 (get_or addresses 0 0)) 0 0 (λ _. refl) (λ _. refl))
barred_why addresses sizes picks (suc i) = go (eqb (get_or addresses i 0 + get_or sizes i 0) (get_or addresses (suc i) 0)) refl
  where
    go : (y : Bool) → eqb (get_or addresses i 0 + get_or sizes i 0) (get_or addresses (suc i) 0) ≡ y
        → (cond y (get_or picks i 0) 0 ≡ 0) ⊎ (eqb (get_or addresses i 0 + get_or sizes i 0) (get_or addresses (suc i) 0) ≡ true)
    go true e = inr e
    go false e = inl refl
