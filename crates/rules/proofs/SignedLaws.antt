-- Sums with a two's complement number, modulo 2^64.
-- Assumes nothing.
use Prim.Native.Nat.{ℕ, suc, ◌+◌, ◌-◌, ◌%◌, ◌^◌, ◌≤◌, ◌<◌}
use mathlib.Core.Path.{◌≡◌, refl}
use mathlib.Core.Bool.{Bool, true, false, cond}
use native.Mathlib.Omega.{arith}
use lib.Dec.{ltb}
use lib.IntN.{ℤ, pos, negsuc, ◌+ℤ◌}
use borrow.Author.Tests.{ltb-true, ltb-false}
use Rattle.rules.specs.Memory.{signed, mod64}

-- by cases on a test
pub by_ltb : (P : Bool → Type 0) (a b : ℕ) → (a < b → P true) → (b ≤ a → P false) → P (ltb a b)
by_ltb P a b f g = go (ltb a b) refl
  where
    go : (t : Bool) → ltb a b ≡ t → P t
    go true e = f (ltb-true a b e)
    go false e = g (ltb-false a b e)

-- the wrapped sum is the exact sum modulo 2^64
pub mod_add : (z : ℤ) (a : ℕ) → a < 2 ^ 64 → mod64 (z +ℤ signed a) ≡ (mod64 z + a) % 2 ^ 64
mod_add (pos m) a h =
    by_ltb (λ t. mod64 (pos m +ℤ cond t (pos a) (negsuc (2 ^ 64 - suc a))) ≡ (m % 2 ^ 64 + a) % 2 ^ 64) a (2 ^ 63)
    (λ l. omega arith)
    (λ l. by_ltb (λ t. mod64 (cond t (negsuc (suc (2 ^ 64 - suc a) - suc m)) (pos (m - suc (2 ^ 64 - suc a)))) ≡ (m % 2 ^ 64 + a) % 2 ^ 64)
    m (suc (2 ^ 64 - suc a))
    (λ g. omega arith)
    (λ g. omega arith))
mod_add (negsuc m) a h =
    by_ltb (λ t. mod64 (negsuc m +ℤ cond t (pos a) (negsuc (2 ^ 64 - suc a))) ≡ (2 ^ 64 - 1 - m % 2 ^ 64 + a) % 2 ^ 64) a (2 ^ 63)
    (λ l. by_ltb (λ t. mod64 (cond t (negsuc (suc m - suc a)) (pos (a - suc m))) ≡ (2 ^ 64 - 1 - m % 2 ^ 64 + a) % 2 ^ 64) a (suc m)
    (λ g. omega arith)
    (λ g. omega arith))
    (λ l. omega arith)
