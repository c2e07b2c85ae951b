-- Numbers of bytes that stand in a list.
-- Assumes nothing.
use Prim.Native.Nat.{ℕ, zero, suc, ◌+◌, ◌<◌}
use mathlib.Core.Path.{◌≡◌, refl}
use mathlib.Core.List.{List}
use native.Mathlib.Omega.{arith}
use native.Mathlib.Nat.{zero-add, add-zero, add_assoc}
use native.Mathlib.Numerals.{one-add}
use lib.ListN.{get_or}
use Rattle.std.specs.Int.{w16, w32, w64, from_le_bytes}
use Rattle.rules.specs.Bytes.{le}
use Rattle.reads.specs.Bytes.{Stands}

-- the same bytes are the same number
le_same : (n x y : ℕ) (a b : List ℕ) → ((i : ℕ) → i < n → get_or a (x + i) 0 ≡ get_or b (y + i) 0) → le n a x ≡ le n b y
unfolding le
le_same zero x y a b h = refl
le_same (suc n) x y a b h =
    let e : get_or a x 0 ≡ get_or b y 0 = simp add-zero at (h 0 (omega arith)) in
    let r = le_same n (x + 1) (y + 1) a b (λ i l. simp (add_assoc, one-add) (h (suc i) (omega arith))) in
    omega (arith, e, r)

stands_le : (n : ℕ) (b s : List ℕ) (at : ℕ) → Stands n b s at → le n b 0 ≡ le n s at
stands_le n b s at h = le_same n 0 at b s (λ i l. simp zero-add (h.each i l))

pub from16 : (b s : List ℕ) (at : ℕ) → Stands 2 b s at → from_le_bytes w16 b ≡ le 2 s at
unfolding le
from16 b s at h = rw (← stands_le 2 b s at h) (omega arith)

pub from32 : (b s : List ℕ) (at : ℕ) → Stands 4 b s at → from_le_bytes w32 b ≡ le 4 s at
unfolding le
from32 b s at h = rw (← stands_le 4 b s at h) (omega arith)

pub from64 : (b s : List ℕ) (at : ℕ) → Stands 8 b s at → from_le_bytes w64 b ≡ le 8 s at
unfolding le
from64 b s at h = rw (← stands_le 8 b s at h) (omega arith)
