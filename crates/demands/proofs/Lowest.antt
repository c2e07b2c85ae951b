-- A check over indices refuses at the lowest fault.
-- Assumes nothing.
use Prim.Native.Nat.{ℕ, zero, suc, ◌+◌, ◌≤◌, ◌<◌}
use mathlib.Core.Path.{◌≡◌, refl, sym, ◌∙◌}
use mathlib.Core.Bool.{Bool, true, false, cond}
use mathlib.Core.Logic.{⊎_elim}
use native.Mathlib.Nat.{eq-or-lt_of_le}
use native.Mathlib.Omega.{arith}
use lib.Dec.{eqb}
use borrow.Author.Tests.{eqb-false}
use Rattle.rules.specs.Outcome.{Outcome, good, bad, refusal, refuse, Refusal}
use Rattle.rules.specs.First.{first, faultless}
use Rattle.rules.proofs.FirstLaws.{first-le, first_true, first_below, first_end, faultless-hit}
use Rattle.laws.proofs.Checks.{le_or_lt}
use Rattle.demands.specs.Table.{Clear, Lowest}
use Rattle.rules.proofs.OutcomeLaws.{true_false, good_bad}

-- a test does not both hold and fail
pub not_both : {A : Type 0} (b : Bool) → b ≡ true → b ≡ false → A
not_both b p q = true_false (sym p ∙ q)

-- a test with a refusal behind it: which of the two refused
pub cond_bad : {A P : Type 0} {r : Refusal} (b : Bool) (x : Outcome A) (q : Refusal) → cond b x (bad q) ≡ bad r
    → (b ≡ true → x ≡ bad r → P) → (b ≡ false → r ≡ q → P) → P
cond_bad true x q h before here = before refl h
cond_bad false x q h before here = here refl (cc)

module _ (fault : ℕ → Bool) where
  first_least : (k a : ℕ) → a ≤ first fault a k
  unfolding first
  first_least zero a = omega arith
  first_least (suc k) a = go (fault a) (first_least k (a + 1))
    where
      go : (b : Bool) → a + 1 ≤ first fault (a + 1) k → a ≤ cond b a (first fault (a + 1) k)
      go true h = omega arith
      go false h = omega arith

  module _ (a k b : ℕ) (range : b ≡ a + k) where
    pub lowest_first : (i : ℕ) → Lowest fault a b i → first fault a k ≡ i
    lowest_first i l =
        let u = l.from in
        let v = l.below in
        ⊎_elim
        (λ (q : i ≤ first fault a k).
        ⊎_elim
        (λ (e : i ≡ first fault a k). sym e)
        (λ (e : i < first fault a k). not_both (fault i) l.faulty (first_below fault k a i u e))
        (eq-or-lt_of_le q))
        (λ (q : first fault a k < i).
        not_both (fault (first fault a k)) (first_true fault k a (omega arith)) (l.lowest (first fault a k) (first_least k a) q))
        (le_or_lt i (first fault a k))

    pub first_lowest : first fault a k < b → Lowest fault a b (first fault a k)
    first_lowest l = record {
      from = first_least k a;
      below = l;
      faulty = first_true fault k a (omega arith);
      lowest = λ i u v. first_below fault k a i u v;
    }

    pub clear_first : Clear fault a b → first fault a k ≡ b
    clear_first c = first_end fault k a (λ i u v. c i u (omega arith)) ∙ sym range

    pub first_clear : b ≤ first fault a k → Clear fault a b
    first_clear l i u v = first_below fault k a i u (omega arith)

  pub faultless_lowest : {r : Refusal} (number n : ℕ) → faultless number fault n ≡ bad r
      → (i : ℕ) × (Lowest fault 0 n i × (r ≡ refusal number i))
  faultless_lowest {r} number n h =
      cond_bad (eqb (first fault 0 n) n) (good tt) (refusal number (first fault 0 n)) h
      (λ t q. good_bad q)
      (λ t q.
      let ne = eqb-false (first fault 0 n) n t in
      let l = first-le fault n 0 in
      (first fault 0 n, (first_lowest 0 n n (omega arith) (omega arith), q)))

  pub lowest_faultless : (number n i : ℕ) → Lowest fault 0 n i → faultless number fault n ≡ refuse number i
  lowest_faultless number n i l = faultless-hit number fault n i (lowest_first 0 n n (omega arith) i l) l.below
