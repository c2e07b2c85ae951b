-- What a check without a fault says of each index, and back.
-- Assumes nothing.
use Prim.Native.Nat.{ℕ, zero, suc, ◌+◌, ◌≤◌, ◌<◌}
use mathlib.Core.Path.{◌≡◌, refl, ◌∙◌, subst}
use mathlib.Core.Bool.{Bool, true, false, cond, ◌&&◌, ◌||◌}
use mathlib.Core.Logic.{◌⊎◌, inl, inr}
use native.Mathlib.Nat.{suc-add}
use native.Mathlib.Omega.{arith}
use lib.Dec.{leb, eqb}
use borrow.Author.Tests.{leb-true, leb-false, ltb-true, ltb-false, le-ltb, eqb-true, eq-eqb}
use Rattle.rules.specs.Outcome.{Outcome, good, bad, and_then, require, refusal, Refusal}
use Rattle.rules.specs.First.{first, some_below, faults_at, faultless}
use Rattle.rules.proofs.FirstLaws.{first-le, first_all, first_end, first_true}
use Rattle.rules.proofs.OutcomeLaws.{never, cond_held}

-- an outcome is one of the two
pub either : {A : Type 0} (o : Outcome A) → ((a : A) × (o ≡ good a)) ⊎ ((r : Refusal) × (o ≡ bad r))
either (good a) = inl (a, refl)
either (bad r) = inr (r, refl)

pub or_left : (a b : Bool) → (a || b) ≡ false → a ≡ false
or_left true b h = h
or_left false b h = refl

pub or_right : (a b : Bool) → (a || b) ≡ false → b ≡ false
or_right true b h = search never
or_right false b h = h

-- where the first holds the second does not
pub and_false : (a b : Bool) → (a && b) ≡ false → a ≡ true → b ≡ false
and_false true b h e = h
and_false false b h e = search never

-- two by cases on one test
pub cond_both : {A : Type 0} (R : A → A → Type 0) (b : Bool) (x y v w : A) → (b ≡ true → R x v) → (b ≡ false → R y w)
    → R (cond b x y) (cond b v w)
cond_both R true x y v w f g = f refl
cond_both R false x y v w f g = g refl

-- which of two checks in a row refused
pub and_then_bad : {A B P : Type 0} {r : Refusal} (x : Outcome A) (k : A → Outcome B) → and_then x k ≡ bad r
    → (x ≡ bad r → P) → ((a : A) → x ≡ good a → k a ≡ bad r → P) → P
and_then_bad (good a) k h here after = after a refl h
and_then_bad (bad r) k h here after = here (cc)

pub require_stopped : {r : Refusal} (b : Bool) (n p : ℕ) → require b n p ≡ bad r → (b ≡ false) × (r ≡ refusal n p)
require_stopped true n p h = search never
require_stopped false n p h = (refl, cc)

-- what holds of a value that came out good
pub good_same : {A : Type 0} (P : A → Type 0) (a b : A) → ◌≡◌ {A = Outcome A} (good a) (good b) → P a → P b
good_same P a b e h = let q : a ≡ b = cc in subst P q h

pub le_or_lt : (a b : ℕ) → (a ≤ b) ⊎ (b < a)
le_or_lt a b = go (leb a b) refl
  where
    go : (t : Bool) → leb a b ≡ t → (a ≤ b) ⊎ (b < a)
    go true e = inl (leb-true a b e)
    go false e = inr (leb-false a b e)

-- what is found among the first k indices is found among more
pub first_prefix : (f : ℕ → Bool) (k j i : ℕ) → first f i k < i + k → first f i (k + j) ≡ first f i k
unfolding first
first_prefix f zero j i h = absurd (omega arith)
first_prefix f (suc k) j i h = rw suc-add (go (f i) h (first_prefix f k j (i + 1)))
  where
    go : (b : Bool) → cond b i (first f (i + 1) k) < i + suc k
        → (first f (i + 1) k < i + 1 + k → first f (i + 1) (k + j) ≡ first f (i + 1) k)
        → cond b i (first f (i + 1) (k + j)) ≡ cond b i (first f (i + 1) k)
    go true h r = refl
    go false h r = r (omega arith)

module _ (f : ℕ → Bool) where
  -- the answer is the end: no index below it
  pub end_all : (n : ℕ) → eqb (first f 0 n) n ≡ true → (j : ℕ) → j < n → f j ≡ false
  end_all n h j l = let e = eqb-true (first f 0 n) n h in first_all f n 0 (omega arith) j (omega arith) (omega arith)

  pub all_end : (n : ℕ) → ((j : ℕ) → j < n → f j ≡ false) → first f 0 n ≡ n
  all_end n h = first_end f n 0 (λ j l g. h j (omega arith)) ∙ omega arith

  pub faults_all : (number : ℕ) (position : ℕ → ℕ) (n : ℕ) → faults_at number position f n ≡ good tt → (j : ℕ) → j < n → f j ≡ false
  faults_all number position n h = end_all n (cond_held (refusal number (position (first f 0 n))) (eqb (first f 0 n) n) (good tt) h).0

  pub all_faults : (number : ℕ) (position : ℕ → ℕ) (n : ℕ) → ((j : ℕ) → j < n → f j ≡ false) → faults_at number position f n ≡ good tt
  all_faults number position n h = let e = eq-eqb (first f 0 n) n (all_end n h) in rw e

  -- where an index is its own position
  pub faultless_all : (number n : ℕ) → faultless number f n ≡ good tt → (j : ℕ) → j < n → f j ≡ false
  faultless_all number n h = faults_all number (λ i. i) n h

  pub all_faultless : (number n : ℕ) → ((j : ℕ) → j < n → f j ≡ false) → faultless number f n ≡ good tt
  all_faultless number n h = all_faults number (λ i. i) n h

  pub some_all : (n : ℕ) → some_below f n ≡ false → (j : ℕ) → j < n → f j ≡ false
  some_all n h j l =
      let e = ltb-false (first f 0 n) n h in
      let g = first-le f n 0 in
      first_all f n 0 (omega arith) j (omega arith) (omega arith)

  pub all_some : (n : ℕ) → ((j : ℕ) → j < n → f j ≡ false) → some_below f n ≡ false
  all_some n h = let e = all_end n h in le-ltb (first f 0 n) n (omega arith)

  -- the index at which it holds
  pub some_at : (n : ℕ) → some_below f n ≡ true → (i : ℕ) × ((i < n) × (f i ≡ true))
  some_at n h = let e = ltb-true (first f 0 n) n h in (first f 0 n, (e, first_true f n 0 (omega arith)))
