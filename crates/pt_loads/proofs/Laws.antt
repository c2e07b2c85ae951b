-- Powers of two from the highest down, and where a good PT_LOAD ends.
-- Assumes nothing.
use Prim.Native.Nat.{ℕ, zero, suc, ◌+◌, ◌*◌, ◌/◌, ◌%◌, ◌^◌, ◌≤◌, ◌<◌}
use mathlib.Core.Path.{◌≡◌, refl, sym, ap, ◌∙◌}
use mathlib.Core.Bool.{Bool, true, false, not, ◌&&◌, ◌||◌}
use native.Mathlib.Omega.{arith}
use native.Mathlib.Nat.{pow-suc}
use lib.Count.{ones, ones_step}
use Rattle.std.proofs.lemmas.Nat.{zero_from_ones}
use lib.Dec.{eqb}
use borrow.Author.Tests.{leb-true, ne_eqb, eq-eqb, eqb-true, eqb-false}
use Rattle.rules.specs.Limits.{memory_limit}
use Rattle.rules.specs.Segments.{power_below, good_load, is_load}
use Rattle.rules.specs.declared.Segment.{Segment}
use Rattle.rules.proofs.OutcomeLaws.{never, and_left, and_right}

eqb_iff : (a b x y : ℕ) → (a ≡ b → x ≡ y) → (x ≡ y → a ≡ b) → eqb a b ≡ eqb x y
eqb_iff a b x y f g = go (eqb a b) refl
  where
    go : (t : Bool) → eqb a b ≡ t → t ≡ eqb x y
    go true e = sym (eq-eqb x y (f (eqb-true a b e)))
    go false e = sym (ne_eqb x y (λ q. eqb-false a b e (g q)))

or_false : (b : Bool) → (b || false) ≡ b
or_false true = refl
or_false false = refl

-- a power of two has one bit set: by halves
power_even : (n b : ℕ) → power_below (suc n) (2 * b) ≡ power_below n b
unfolding power_below
power_even zero b = rw (ne_eqb (2 * b) 1 (λ e. omega arith))
power_even (suc n) b =
    let e : eqb (2 * b) (2 ^ suc n) ≡ eqb b (2 ^ n) =
    eqb_iff _ _ _ _ (λ q. omega (arith, pow-suc 2 n)) (λ q. omega (arith, pow-suc 2 n)) in
    rw (e, power_even n b)

power_odd : (n b : ℕ) → power_below (suc n) (2 * b + 1) ≡ eqb b 0
unfolding power_below
power_odd zero b = rw (eqb_iff (2 * b + 1) 1 b 0 (λ q. omega arith) (λ q. omega arith)) (or_false _)
power_odd (suc n) b = rw (ne_eqb (2 * b + 1) (2 ^ suc n) (λ q. omega (arith, pow-suc 2 n)), power_odd n b)

ones_even : (n a : ℕ) → a % 2 ≡ 0 → eqb (ones (a / 2)) 1 ≡ power_below n (a / 2) → eqb (ones a) 1 ≡ power_below (suc n) a
ones_even n a e h =
    let half : a ≡ 2 * (a / 2) = omega arith in
    let s : ones a ≡ ones (a / 2) = omega (arith, ones_step a) in
    rw (s, h) (sym (ap (λ (x : ℕ). power_below (suc n) x) half ∙ power_even n (a / 2)))

ones_odd : (n a : ℕ) → a % 2 ≡ 1 → eqb (ones a) 1 ≡ power_below (suc n) a
unfolding ones
ones_odd n a e =
    let half : a ≡ 2 * (a / 2) + 1 = omega arith in
    let s : ones a ≡ 1 + ones (a / 2) = omega (arith, ones_step a) in
    let z : eqb (ones a) 1 ≡ eqb (a / 2) 0 =
    eqb_iff _ _ _ _ (λ q. zero_from_ones (a / 2) (omega arith)) (λ q. let n : ones (a / 2) ≡ 0 = rw q refl in omega arith) in
    z ∙ sym (ap (λ (x : ℕ). power_below (suc n) x) half ∙ power_odd n (a / 2))

by_parity : (a : ℕ) (P : Type 0) → (a % 2 ≡ 0 → P) → (a % 2 ≡ 1 → P) → P
by_parity a P f g = go (a % 2) refl
  where
    go : (r : ℕ) → a % 2 ≡ r → P
    go zero e = f e
    go (suc r) e = g (omega arith)

pub power_ones : (n a : ℕ) → a < 2 ^ n → eqb (ones a) 1 ≡ power_below n a
unfolding ones power_below
power_ones zero a l = let z : a ≡ 0 = omega arith in rw z refl
power_ones (suc n) a l =
    by_parity a (eqb (ones a) 1 ≡ power_below (suc n) a) (λ e. ones_even n a e (power_ones n (a / 2) (omega (arith, pow-suc 2 n)))) (ones_odd n a)

-- a good PT_LOAD ends inside memory, and so does one that is not bad
pub good_load_end : (n last : ℕ) (s : Segment) → good_load n last s ≡ true → s.vaddr + s.memsz ≤ memory_limit
unfolding good_load
good_load_end n last s h = leb-true _ _ (search (and_left, and_right))

pub load_end : (n last : ℕ) (s : Segment) → is_load s ≡ true → (is_load s && not (good_load n last s)) ≡ false → s.vaddr + s.memsz ≤ memory_limit
load_end n last s l h = good_load_end n last s (not_bad _ _ l h)
  where
    not_bad : (a b : Bool) → a ≡ true → (a && not b) ≡ false → b ≡ true
    not_bad true true p q = refl
    not_bad true false p q = search never
    not_bad false b p q = search never
