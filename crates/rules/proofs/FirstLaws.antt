-- Laws of `first`, `some_below` and `count_below`.
-- Assumes nothing.
use Prim.Native.Nat.{ℕ, zero, suc, ◌+◌, ◌-◌, ◌≤◌, ◌<◌}
use mathlib.Core.Path.{◌≡◌, refl, sym, ◌∙◌}
use mathlib.Core.Bool.{Bool, true, false, cond, ◌||◌, or-true}
use mathlib.Core.Logic.{⊎_elim}
use native.Mathlib.Nat.{eq-or-lt_of_le, add-zero, zero-add}
use native.Mathlib.Numerals.{add-one}
use native.Mathlib.Omega.{arith}
use lib.Dec.{ltb, eqb}
use borrow.Author.Tests.{ltb-true, ltb-false, lt-ltb, le-ltb, eq-eqb, ne_eqb, eqb-true, eqb-false}
use Rattle.rules.specs.Outcome.{good, refuse}
use Rattle.rules.specs.First.{first, some_below, count_below, faultless}
use Rattle.rules.proofs.OutcomeLaws.{true_false}

module _ (f : ℕ → Bool) where
  -- for a loop whose invariant is first f 0 n ≡ first f i (n - i)
  pub first_step : (i n : ℕ) → i < n → f i ≡ false → first f i (n - i) ≡ first f (i + 1) (n - (i + 1))
  unfolding first
  first_step i n l e = let m : n - i ≡ suc (n - (i + 1)) = omega arith in rw (m, e)

  pub first-hit : (i n : ℕ) → i < n → f i ≡ true → first f i (n - i) ≡ i
  unfolding first
  first-hit i n l e = let m : n - i ≡ suc (n - (i + 1)) = omega arith in rw (m, e)

  pub first_none : (i n : ℕ) → i ≤ n → n ≤ i → first f i (n - i) ≡ n
  unfolding first
  first_none i n h l = let m : n - i ≡ 0 = omega arith in let e : i ≡ n = omega arith in rw m e

  -- for a caller: bounds, and what holds at and below the answer
  pub first-le : (k i : ℕ) → first f i k ≤ i + k
  unfolding first
  first-le zero i = omega arith
  first-le (suc k) i = go (f i) (first-le k (i + 1))
    where
      go : (b : Bool) → first f (i + 1) k ≤ i + 1 + k → cond b i (first f (i + 1) k) ≤ i + suc k
      go true h = omega arith
      go false h = omega arith

  pub first_true : (k i : ℕ) → first f i k < i + k → f (first f i k) ≡ true
  unfolding first
  first_true zero i h = absurd (omega arith)
  first_true (suc k) i h = go (f i) refl h (first_true k (i + 1))
    where
      go : (b : Bool) → f i ≡ b → cond b i (first f (i + 1) k) < i + suc k
          → (first f (i + 1) k < i + 1 + k → f (first f (i + 1) k) ≡ true) → f (cond b i (first f (i + 1) k)) ≡ true
      go true p q r = p
      go false p q r = r (omega arith)

  pub first_below : (k i j : ℕ) → i ≤ j → j < first f i k → f j ≡ false
  unfolding first
  first_below zero i j l h = absurd (omega arith)
  first_below (suc k) i j l h = go (f i) refl h (first_below k (i + 1) j)
    where
      go : (b : Bool) → f i ≡ b → j < cond b i (first f (i + 1) k) → (i + 1 ≤ j → j < first f (i + 1) k → f j ≡ false) → f j ≡ false
      go true p q r = absurd (omega arith)
      go false p q r = ⊎_elim (λ (s : i ≡ j). rw (← s) p) (λ (s : i < j). r (omega arith) q) (eq-or-lt_of_le l)

  -- no fault anywhere where the answer is the end
  pub first_all : (k i : ℕ) → first f i k ≡ i + k → (j : ℕ) → i ≤ j → j < i + k → f j ≡ false
  first_all k i e j l h = first_below k i j l (omega arith)

  -- and the end where there is no fault
  pub first_end : (k i : ℕ) → ((j : ℕ) → i ≤ j → j < i + k → f j ≡ false) → first f i k ≡ i + k
  unfolding first
  first_end zero i h = omega arith
  first_end (suc k) i h =
      let e : f i ≡ false = h i (omega arith) (omega arith) in
      rw e (first_end k (i + 1) (λ j a b. h j (omega arith) (omega arith)) ∙ omega arith)

  -- a hit makes some
  pub some_hit : (n i : ℕ) → i < n → first f 0 n ≡ i → some_below f n ≡ true
  some_hit n i l e = lt-ltb (first f 0 n) n (omega arith)

  -- so does an index at which it holds
  pub at_some : (n i : ℕ) → i < n → f i ≡ true → some_below f n ≡ true
  at_some n i l e = go (some_below f n) refl
    where
      go : (b : Bool) → some_below f n ≡ b → some_below f n ≡ true
      go true q = q
      go false q =
          let past = ltb-false (first f 0 n) n q in
          let none = first_below n 0 i (omega arith) (omega arith) in
          true_false (sym e ∙ none)

  pub some_none : (n : ℕ) → first f 0 n ≡ n → some_below f n ≡ false
  some_none n e = le-ltb (first f 0 n) n (omega arith)

  -- for a loop whose invariant is that its answer so far is first f 0 i
  first_more : (k i : ℕ) → first f i (suc k) ≡ cond (f (i + k)) (first f i k) (cond (eqb (first f i k) (i + k)) (i + k + 1) (first f i k))
  unfolding first
  first_more zero i = rw (add-zero, eq-eqb i i refl)
  first_more (suc k) i = go (f i) (first_more k (i + 1))
    where
      go : (b : Bool)
          → first f (i + 1) (suc k)
          ≡ cond (f (i + 1 + k)) (first f (i + 1) k) (cond (eqb (first f (i + 1) k) (i + 1 + k)) (i + 1 + k + 1) (first f (i + 1) k))
          → cond b i (first f (i + 1) (suc k))
          ≡ cond (f (i + suc k)) (cond b i (first f (i + 1) k))
          (cond (eqb (cond b i (first f (i + 1) k)) (i + suc k)) (i + suc k + 1) (cond b i (first f (i + 1) k)))
      go true h = rw (ne_eqb i (i + suc k) (λ q. omega arith)) (same (f (i + suc k)))
        where
          same : (b : Bool) → i ≡ cond b i i
          same true = refl
          same false = refl
      go false h = let e : i + 1 + k ≡ i + suc k = omega arith in rw (e) at h

  pub first_next : (i : ℕ) → first f 0 (i + 1) ≡ cond (f i) (first f 0 i) (cond (eqb (first f 0 i) i) (i + 1) (first f 0 i))
  first_next i = rw add-one (rw (zero-add, add-one) at (first_more i 0))

  pub count_le : (n : ℕ) → count_below f n ≤ n
  unfolding count_below
  count_le zero = omega arith
  count_le (suc n) = go (f n) (count_le n)
    where
      go : (b : Bool) → count_below f n ≤ n → count_below f n + cond b 1 0 ≤ suc n
      go true h = omega arith
      go false h = omega arith

  -- one index more
  pub some_next : (n : ℕ) → some_below f (n + 1) ≡ (f n || some_below f n)
  some_next n = rw (first_next n) (go (f n) (eqb (first f 0 n) n) refl)
    where
      go : (b c : Bool) → eqb (first f 0 n) n ≡ c
          → ltb (cond b (first f 0 n) (cond c (n + 1) (first f 0 n))) (n + 1) ≡ (b || ltb (first f 0 n) n)
      go true c e = let l = first-le n 0 in lt-ltb (first f 0 n) (n + 1) (omega arith)
      go false true e = let s = eqb-true (first f 0 n) n e in le-ltb (n + 1) (n + 1) (omega arith) ∙ sym (le-ltb (first f 0 n) n (omega arith))
      go false false e =
          let d = eqb-false (first f 0 n) n e in
          let l = first-le n 0 in
          lt-ltb (first f 0 n) (n + 1) (omega arith) ∙ sym (lt-ltb (first f 0 n) n (omega arith))

  -- an index at which it holds, where it does at none before, is the first
  pub first_is : (n v : ℕ) → v ≤ n → (v < n → f v ≡ true) → ((i : ℕ) → i < v → f i ≡ false) → v ≡ first f 0 n
  first_is n v l hit none = go (ltb v (first f 0 n)) (ltb (first f 0 n) v) refl refl
    where
      go : (a b : Bool) → ltb v (first f 0 n) ≡ a → ltb (first f 0 n) v ≡ b → v ≡ first f 0 n
      go true b p q =
          let u = ltb-true v (first f 0 n) p in
          let w = first-le n 0 in
          true_false (sym (hit (omega arith)) ∙ first_below n 0 v (omega arith) u)
      go false true p q =
          let u = ltb-true (first f 0 n) v q in
          true_false (sym (first_true n 0 (omega arith)) ∙ none (first f 0 n) u)
      go false false p q =
          let u = ltb-false v (first f 0 n) p in
          let w = ltb-false (first f 0 n) v q in
          omega arith

-- two tests that agree below the end have the same answer
pub first_same : (f g : ℕ → Bool) (k i : ℕ) → ((j : ℕ) → i ≤ j → j < i + k → f j ≡ g j) → first f i k ≡ first g i k
unfolding first
first_same f g zero i h = refl
first_same f g (suc k) i h =
    let e : f i ≡ g i = h i (omega arith) (omega arith) in
    let r : first f (i + 1) k ≡ first g (i + 1) k = first_same f g k (i + 1) (λ j a b. h j (omega arith) (omega arith)) in
    rw (e, r)

-- the lowest of two tests is the lowest of the second before the lowest of the first
pub first_or : (f g : ℕ → Bool) (n : ℕ) → first (λ i. f i || g i) 0 n ≡ first g 0 (first f 0 n)
first_or f g n =
    let a = first-le f n 0 in
    let b = first-le g (first f 0 n) 0 in
    sym
    (first_is (λ i. f i || g i) n (first g 0 (first f 0 n)) (omega arith)
    (λ l. there (ltb (first g 0 (first f 0 n)) (first f 0 n)) refl l)
    (λ i l. rw (first_below f n 0 i (omega arith) (omega arith), first_below g (first f 0 n) 0 i (omega arith) l)))
  where
    there : (x : Bool) → ltb (first g 0 (first f 0 n)) (first f 0 n) ≡ x → first g 0 (first f 0 n) < n
        → (f (first g 0 (first f 0 n)) || g (first g 0 (first f 0 n))) ≡ true
    there true e l =
        let k = ltb-true (first g 0 (first f 0 n)) (first f 0 n) e in
        rw (first_true g (first f 0 n) 0 (omega arith), or-true)
    there false e l =
        let k = ltb-false (first g 0 (first f 0 n)) (first f 0 n) e in
        let b = first-le g (first f 0 n) 0 in
        let s : first g 0 (first f 0 n) ≡ first f 0 n = omega arith in
        rw (s, first_true f n 0 (omega arith))

-- a check of faults, where a walk found the lowest and where it found none
pub faultless-hit : (number : ℕ) (f : ℕ → Bool) (n i : ℕ) → first f 0 n ≡ i → i < n → faultless number f n ≡ refuse number i
faultless-hit number f n i e l = rw (e, ne_eqb i n (λ q. omega arith))

pub faultless_none : (number : ℕ) (f : ℕ → Bool) (n : ℕ) → first f 0 n ≡ n → faultless number f n ≡ good tt
faultless_none number f n e = rw (e, eq-eqb n n refl)
