-- Aligns of PT_LOADs that pass check 4 are powers of two: a multiple of the largest is a multiple of each.
-- Assumes nothing.
use Prim.Native.Nat.{ℕ, zero, suc, ◌+◌, ◌-◌, ◌%◌, ◌^◌, ◌≤◌, ◌<◌, ◌∣◌, max}
use mathlib.Core.Path.{◌≡◌, refl, sym, ◌∙◌, subst}
use mathlib.Core.Bool.{Bool, true, false, ◌&&◌, ◌||◌}
use mathlib.Core.List.{List}
use mathlib.Core.Logic.{◌⊎◌, inl, inr, ⊎_elim}
use native.Mathlib.Nat.{dvd_trans, one-dvd, dvd-mul_right, max-eq_left, max-eq_right, le-max_left, le-max_right, eq-or-lt_of_le, le_of_suc-le-suc}
use native.Mathlib.Omega.{arith}
use lib.Pow.{pow-add, pow-lt}
use lib.Dec.{eqb, ltb}
use borrow.Author.Tests.{eqb-true, ltb-true}
use Rattle.rules.specs.Outcome.{good}
use Rattle.rules.specs.Segments.{header_at, is_load, power_below, aligned, align_before, largest_align, loads_check}
use Rattle.rules.specs.declared.Headers.{Headers}
use Rattle.rules.proofs.OutcomeLaws.{false_true, and_left, and_right}
use Rattle.rules.proofs.BoolLaws.{cond_case}
use Rattle.laws.proofs.Checks.{le_or_lt}
use Rattle.laws.proofs.Loads.{load_good}

-- a power of two, with its exponent
pub record Power (a : ℕ) : Type 0 where
  pub exponent : ℕ
  pub power : a ≡ 2 ^ exponent

one_power : Power 1
one_power = record { exponent = 0; power = refl }

power_below_lem : (n a : ℕ) → power_below n a ≡ true → Power a
unfolding power_below
power_below_lem zero a e = false_true e
power_below_lem (suc n) a e = go (eqb a (2 ^ n)) refl (λ r. power_below_lem n a r) e
  where
    go : (b : Bool) → eqb a (2 ^ n) ≡ b → (power_below n a ≡ true → Power a) → (b || power_below n a) ≡ true → Power a
    go true q rest e = record { exponent = n; power = eqb-true a (2 ^ n) q }
    go false q rest e = rest e

-- of two powers of two the smaller divides the larger
power_divides : (a b : ℕ) → Power a → Power b → a ≤ b → a ∣ b
power_divides a b p q l =
    ⊎_elim
    (λ (u : p.exponent ≤ q.exponent).
    let s : q.exponent ≡ p.exponent + (q.exponent - p.exponent) = omega arith in
    rw (p.power, q.power, s, pow-add 2 p.exponent (q.exponent - p.exponent)) (dvd-mul_right (2 ^ p.exponent) _))
    (λ (u : q.exponent < p.exponent). let v = pow-lt u in let x = p.power in let y = q.power in absurd (omega arith))
    (le_or_lt p.exponent q.exponent)

pub aligned_power : (a offset vaddr : ℕ) → aligned a offset vaddr ≡ true → (a ≡ 0) ⊎ Power a
unfolding aligned
aligned_power a offset vaddr e = go (ltb a 2) refl e
  where
    small : (a : ℕ) → a < 2 → (a ≡ 0) ⊎ Power a
    small zero l = inl refl
    small (suc zero) l = inr one_power
    small (suc (suc a)) l = absurd (omega arith)

    go : (b : Bool) → ltb a 2 ≡ b → (b || (power_below 64 a && eqb (offset % a) (vaddr % a))) ≡ true → (a ≡ 0) ⊎ Power a
    go true q e = small a (ltb-true a 2 q)
    go false q e = inr (power_below_lem 64 a (and_left (power_below 64 a) _ e))

-- offset and address agree modulo the align
pub aligned_agree : (a offset vaddr : ℕ) → aligned a offset vaddr ≡ true → 0 < a → offset % a ≡ vaddr % a
unfolding aligned
aligned_agree a offset vaddr e pos = go (ltb a 2) refl e
  where
    small : a ≡ 1 → offset % a ≡ vaddr % a
    small q = rw q (omega arith)

    go : (b : Bool) → ltb a 2 ≡ b → (b || (power_below 64 a && eqb (offset % a) (vaddr % a))) ≡ true → offset % a ≡ vaddr % a
    go true q e = let l = ltb-true a 2 q in small (omega arith)
    go false q e = eqb-true _ _ (and_right (power_below 64 a) _ e)

-- what holds of 1, and of each align but 0, holds of the largest
largest_all : (f : List ℕ) (h : Headers) (P : ℕ → Type 0) (k : ℕ) → P 1
    → ((i : ℕ) → i < k → is_load (header_at f h i) ≡ true → ((header_at f h i).align ≡ 0) ⊎ P (header_at f h i).align)
    → P (align_before f h k)
unfolding align_before
largest_all f h P zero one each = one
largest_all f h P (suc k) one each =
    let x = align_before f h k in
    let a = (header_at f h k).align in
    let before = largest_all f h P k one (λ i l e. each i (omega arith) e) in
    cond_case P (is_load (header_at f h k)) (max x a) x
    (λ t.
    ⊎_elim
    (λ (l : a ≤ x). subst P (sym (max-eq_left l)) before)
    (λ (l : x < a).
    ⊎_elim
    (λ (z : a ≡ 0). absurd (omega arith))
    (λ (p : P a). subst P (sym (max-eq_right (omega arith))) p)
    (each k (omega arith) t))
    (le_or_lt a x))
    (λ _. before)

-- no align counts below 1
pub align_positive : (f : List ℕ) (h : Headers) → 0 < largest_align f h
align_positive f h = largest_all f h (λ a. 0 < a) h.count (omega arith) (λ i l e. some (header_at f h i).align)
  where
    some : (a : ℕ) → (a ≡ 0) ⊎ (0 < a)
    some zero = inl refl
    some (suc a) = inr (omega arith)

-- no align is above the largest
align_most : (f : List ℕ) (h : Headers) (k i : ℕ) → i < k → is_load (header_at f h i) ≡ true → (header_at f h i).align ≤ align_before f h k
unfolding align_before
align_most f h zero i l e = absurd (omega arith)
align_most f h (suc k) i l e =
    let x = align_before f h k in
    let a = (header_at f h k).align in
    cond_case (λ z. (header_at f h i).align ≤ z) (is_load (header_at f h k)) (max x a) x
    (λ t.
    ⊎_elim
    (λ (q : i ≡ k). rw q (le-max_right x a))
    (λ (q : i < k). let m = le-max_left x a in let b = align_most f h k i q e in omega arith)
    (eq-or-lt_of_le (le_of_suc-le-suc l)))
    (λ t.
    ⊎_elim
    (λ (q : i ≡ k). let u : is_load (header_at f h k) ≡ true = rw (← q) e in false_true (sym t ∙ u))
    (λ (q : i < k). align_most f h k i q e)
    (eq-or-lt_of_le (le_of_suc-le-suc l)))

-- a multiple of the largest align is a multiple of each but 0
pub largest_each : (f : List ℕ) (h : Headers) (bias : ℕ) → loads_check f h ≡ good tt → largest_align f h ∣ bias
    → (i : ℕ) → i < h.count → is_load (header_at f h i) ≡ true → ((header_at f h i).align ≡ 0) ⊎ ((header_at f h i).align ∣ bias)
largest_each f h bias passed d i l e =
    let a = (header_at f h i).align in
    ⊎_elim
    (λ (z : a ≡ 0). inl z)
    (λ (p : Power a).
    inr (dvd_trans a (power_divides a _ p (largest_all f h Power h.count one_power align_power) (align_most f h h.count i l e)) d))
    (align_power i l e)
  where
    align_power : (i : ℕ) → i < h.count → is_load (header_at f h i) ≡ true → ((header_at f h i).align ≡ 0) ⊎ Power (header_at f h i).align
    align_power i l e = aligned_power _ _ _ (load_good f h passed i l e).in_step

-- and a multiple of each but 0 is a multiple of the largest
pub each_largest : (f : List ℕ) (h : Headers) (bias : ℕ)
    → ((i : ℕ) → i < h.count → is_load (header_at f h i) ≡ true → ((header_at f h i).align ≡ 0) ⊎ ((header_at f h i).align ∣ bias))
    → largest_align f h ∣ bias
each_largest f h bias each = largest_all f h (λ a. a ∣ bias) h.count (one-dvd bias) each
