-- Laws of little-endian numbers.
-- Assumes nothing.
use Prim.Native.Nat.{ℕ, zero, suc, ◌+◌, ◌*◌, ◌^◌, ◌-◌, ◌≤◌, ◌<◌, min}
use mathlib.Core.List.{List}
use mathlib.Core.Path.{◌≡◌, refl, sym, ◌∙◌}
use mathlib.Core.Bool.{Bool, true, false}
use native.Mathlib.Nat.{pow-le-pow_right, mul-zero, add-zero, zero-add, suc-add, add-suc}
use native.Mathlib.Nat.{mul-add, mul_assoc, mul_left_comm, one-mul, pow-zero, pow-suc, add_assoc}
use native.Mathlib.Numerals.{add-one}
use native.Mathlib.Omega.{arith}
use lib.Dec.{leb}
use borrow.Author.Tests.{leb-true, leb-false}
use lib.ListN.{length, get_or, get_or-eq_default}
use Rattle.std.specs.Prelude.{Some, None}
use Rattle.std.specs.Slice.{IsItemAt}
use denote.Ref.{Bor}
use Rattle.std.proofs.lemmas.List.{get_or_read}
use Rattle.rules.specs.Bytes.{le}

-- m + n bytes are the first m, and n more above them
pub le_split : (m n : ℕ) (s : List ℕ) (at : ℕ) → le (m + n) s at ≡ le m s at + 256 ^ m * le n s (at + m)
unfolding le
le_split zero n s at = simp (zero-add, add-zero, pow-zero, one-mul)
le_split (suc m) n s at =
    rw (suc-add, le_split m n s (at + 1), pow-suc) (simp (add-one, suc-add, add-suc, mul-add, add_assoc, mul_assoc, mul_left_comm))

-- bytes past the end are 0
pub le_past : (n : ℕ) (s : List ℕ) (at : ℕ) → length s ≤ at → le n s at ≡ 0
unfolding le
le_past zero s at h = refl
le_past (suc n) s at h = let e : get_or s at 0 ≡ 0 = get_or-eq_default s 0 h in rw (e, le_past n s (at + 1) (omega arith))

-- one byte more at the low end
pub le_more : (s : List ℕ) (end v : ℕ) → 0 < end → end ≤ length s → v ≡ le (length s - end) s end
    → v * 256 + get_or s (end - 1) 0 ≡ le (length s - (end - 1)) s (end - 1)
unfolding le
le_more s end v h l e =
    let k : length s - (end - 1) ≡ suc (length s - end) = omega arith in
    let p : end - 1 + 1 ≡ end = omega arith in
    rw (k, p, ← e) (omega arith)

-- the bytes from a position to the end, where at most eight are left, are all that the number has
le_left : (s : List ℕ) (at : ℕ) → at < length s → length s < at + 8 → le (length s - at) s at ≡ le 8 s at
le_left s at h c =
    let n = length s - at in
    let m = 8 - (length s - at) in
    let k : length s - at + (8 - (length s - at)) ≡ 8 = omega arith in
    let w : le 8 s at ≡ le n s at + 256 ^ n * le m s (at + n) = rw k at (le_split n m s at) in
    let z : le m s (at + n) ≡ 0 = le_past m s (at + n) (omega arith) in
    let y : 256 ^ n * le m s (at + n) ≡ 0 = rw (z, mul-zero) in
    omega arith

pub le_cut : (s : List ℕ) (at end : ℕ) → end ≤ length s → min at (length s) ≤ end → end ≤ at → length s < at + 8
    → le (length s - end) s end ≡ le 8 s at
le_cut s at end l m u c = go (leb (length s) at) refl
  where
    go : (b : Bool) → leb (length s) at ≡ b → le (length s - end) s end ≡ le 8 s at
    go true e =
        let h = leb-true (length s) at e in
        let k : end ≡ length s = omega arith in
        (rw k (le_past (length s - length s) s (length s) (omega arith))) ∙ sym (le_past 8 s at h)
    go false e =
        let h = leb-false (length s) at e in
        let k : end ≡ at = omega arith in
        rw k (le_left s at h c)

-- a number of at most seven bytes fits
pub byte_room : (k v b : ℕ) → k ≤ 6 → v < 256 ^ k → b < 256 → (v * 256 + b < 256 ^ suc k) × (v * 256 + b < 2 ^ 56)
byte_room k v b l h c =
    let p : 256 ^ suc k ≡ 256 ^ k * 256 = pow-suc 256 k in
    let small : 256 ^ k ≤ 256 ^ 6 = pow-le-pow_right {n = 256} (omega arith) l in
    (omega arith, omega arith)

-- what `get` says of a byte that is there, and of one past the end
pub got : (s : List ℕ) (at : ℕ) (b : Bor ℕ) → IsItemAt s at (Some b) → (at < length s) × (b.now ≡ get_or s at 0)
got s at b h = (h.3.0, get_or_read s at _ h.3.0 h.1 0)

pub got_none : (s : List ℕ) (at : ℕ) → IsItemAt {X = ℕ} s at None → length s ≤ at
got_none s at h = h.3
