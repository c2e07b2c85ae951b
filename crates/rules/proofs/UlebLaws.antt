-- Laws of ULEB128 numbers, as a loop over their bytes uses them.
-- Assumes nothing.
use Prim.Native.Nat.{ℕ, zero, suc, ◌+◌, ◌*◌, ◌%◌, ◌-◌, ◌^◌, ◌≤◌, ◌<◌}
use mathlib.Core.List.{List}
use mathlib.Core.Path.{◌≡◌, refl, ap, subst}
use native.Mathlib.Omega.{arith}
use native.Mathlib.Nat.{mul-add, mul_assoc, add_assoc, mul-one, mul-le-mul_left, pow-suc, pow-le-pow_right}
use native.Mathlib.Numerals.{sub-one}
use mathlib.Core.Bool.{Bool, true, false, cond}
use borrow.Author.Tests.{ltb-true, lt-ltb, le-ltb}
use lib.ListN.{length, get_or}
use lib.Dec.{ltb}
use Rattle.rules.specs.Descriptors.{Uleb, number, malformed, extend, last_limit, uleb_in, uleb_at}
use Rattle.rules.proofs.BoolLaws.{cond_case}

-- a number that stands above a lower part, which is below scale
abbrev pub above : ℕ → ℕ → Uleb → Uleb
above low scale (number v next) = number (low + scale * v) next
above low scale malformed = malformed

-- at first nothing has been read
pub start : (r : Uleb) → r ≡ above 0 1 r
start (number v next) = ap (λ (x : ℕ). number x next) (omega arith)
start malformed = refl

-- a digit moves from the number above to the part below
pub above_extend : (low scale digit : ℕ) (r : Uleb) → above low scale (extend digit r) ≡ above (low + scale * digit) (scale * 128) r
above_extend low scale digit (number v next) = ap (λ (x : ℕ). number x next) (simp (mul-add, add_assoc, mul_assoc))
above_extend low scale digit malformed = refl

-- the scale at byte k: a digit and the scale after it stay below 2^64
pub room : (k scale d : ℕ) → 1 ≤ k → k < 10 → scale ≡ 128 ^ (k - 1) → d < 128 → (scale * d + scale ≤ scale * 128) × (scale * 128 ≤ 2 ^ 63)
room k scale d l m e h =
    let below : k - 1 ≤ 8 = omega arith in
    let small : 128 ^ (k - 1) ≤ 128 ^ 8 = pow-le-pow_right {n = 128} (omega arith) below in
    let mono : scale * (d + 1) ≤ scale * 128 = mul-le-mul_left scale (omega arith) in
    (omega (arith, simp (mul-add, mul-one) at mono), omega arith)

-- the tenth byte is worth 2^63
pub tenth : (k scale d : ℕ) → k ≡ 10 → scale ≡ 128 ^ (k - 1) → d < 2 → scale * d ≤ 2 ^ 63
tenth k scale d l e h =
    let n : k - 1 ≡ 9 = omega arith in
    let full : scale ≡ 128 ^ 9 = rw n at e in
    let mono : scale * d ≤ scale * 1 = mul-le-mul_left scale (omega arith) in
    omega arith

-- one byte more
pub scaled : (k scale : ℕ) → 1 ≤ k → scale ≡ 128 ^ (k - 1) → scale * 128 ≡ 128 ^ (k + 1 - 1)
scaled k scale l e = let n : k + 1 - 1 ≡ suc (k - 1) = omega arith in rw (n, e, pow-suc)

module _ (s : List ℕ) (at : ℕ) where
  -- the table ends
  pub at_end : (left : ℕ) → length s ≤ at → uleb_in left s at ≡ malformed
  unfolding uleb_in
  at_end zero h = refl
  at_end (suc n) h = simp (le-ltb _ _ h)

  -- a last byte before the tenth
  pub at_last : (left : ℕ) → 1 < left → at < length s → get_or s at 0 < 128 → uleb_in left s at ≡ number (get_or s at 0 % 128) (at + 1)
  unfolding uleb_in
  at_last zero l h b = absurd (omega arith)
  at_last (suc zero) l h b = absurd (omega arith)
  at_last (suc (suc n)) l h b = simp (lt-ltb _ _ h, lt-ltb _ _ b)

  -- a byte with another after it
  pub at_more : (left : ℕ) → 1 < left → at < length s → 128 ≤ get_or s at 0
      → uleb_in left s at ≡ extend (get_or s at 0 % 128) (uleb_in (left - 1) s (at + 1))
  unfolding uleb_in
  at_more zero l h b = absurd (omega arith)
  at_more (suc n) l h b = simp (lt-ltb _ _ h, le-ltb _ _ b, sub-one)

  -- the tenth byte
  pub at_tenth : at < length s → get_or s at 0 < 2 → uleb_in 1 s at ≡ number (get_or s at 0 % 128) (at + 1)
  unfolding uleb_in
  at_tenth h b = simp (lt-ltb _ _ h, lt-ltb (get_or s at 0) 128 (omega arith), lt-ltb _ _ b)

  pub at_tenth_bad : at < length s → 2 ≤ get_or s at 0 → uleb_in 1 s at ≡ malformed
  unfolding uleb_in
  at_tenth_bad h b = simp (lt-ltb _ _ h, le-ltb _ _ b) (both (ltb (get_or s at 0) 128))
    where
      both : (t : Bool) → cond t malformed malformed ≡ malformed
      both true = refl
      both false = refl

-- ---- where a number stands

-- a position after at, inside so many bytes, and no more than so many on
abbrev pub Past : ℕ → ℕ → ℕ → ℕ → Type 0
Past at size most next = (at < next) × ((next ≤ size) × (next ≤ at + most))

-- a number stands in the bytes that it was read from
abbrev pub Stands : ℕ → ℕ → ℕ → Uleb → Type 0
Stands at size most (number v next) = Past at size most next
Stands at size most malformed = Unit

extend_stands : (at size most low : ℕ) (u : Uleb) → Stands (at + 1) size most u → Stands at size (suc most) (extend low u)
extend_stands at size most low (number v next) h = (omega arith, (h.1.0, omega arith))
extend_stands at size most low malformed h = tt

pub uleb_stands : (s : List ℕ) (n at : ℕ) → Stands at (length s) n (uleb_in n s at)
unfolding uleb_in
uleb_stands s zero at = tt
uleb_stands s (suc n) at =
    let again = uleb_stands s n (at + 1) in
    cond_case (λ (u : Uleb). Stands at (length s) (suc n) u) (ltb at (length s)) _ _
    (λ l.
    let here = ltb-true at (length s) l in
    cond_case (λ (u : Uleb). Stands at (length s) (suc n) u) (ltb (get_or s at 0) 128) _ _
    (λ _. cond_case (λ (u : Uleb). Stands at (length s) (suc n) u) (ltb (get_or s at 0) (last_limit n)) _ _
    (λ _. (omega arith, (omega arith, omega arith))) (λ _. tt))
    (λ _. extend_stands at (length s) n (get_or s at 0 % 128) (uleb_in n s (at + 1)) again))
    (λ _. tt)

pub number_stands : (s : List ℕ) (at v next : ℕ) → uleb_at s at ≡ number v next → Past at (length s) 10 next
number_stands s at v next e = subst (λ (u : Uleb). Stands at (length s) 10 u) e (uleb_stands s 10 at)
