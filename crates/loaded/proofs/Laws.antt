-- The loaded bytes from the last one down: one byte more below those that are read.
-- Assumes nothing.
use Prim.Native.Nat.{ℕ, suc, ◌+◌, ◌*◌, ◌-◌, ◌^◌, ◌≤◌, ◌<◌}
use mathlib.Core.Path.{◌≡◌}
use mathlib.Core.List.{List}
use native.Mathlib.Nat.{pow-suc, pow-le-pow_right}
use native.Mathlib.Omega.{arith}
use Rattle.rules.specs.Segments.{backing_of}
use Rattle.rules.specs.Image.{byte_of, loaded_in}
use Rattle.rules.specs.declared.Headers.{Headers}

-- v is the number of the bytes from k on, of the eight at a place
pub record Reading (f : List ℕ) (h : Headers) (place v k : ℕ) : Type 0 where
  pub left : k ≤ 8
  pub value : v ≡ loaded_in f h (8 - k) (place + k)
  pub room : v < 256 ^ (8 - k)

module _ (f : List ℕ) (h : Headers) (place : ℕ) where
  pub reading_start : Reading f h place 0 8
  unfolding loaded_in
  reading_start = record { left = omega arith; value = omega arith; room = omega arith }

  -- with one byte more it fits
  pub reading_room : (v k b : ℕ) → Reading f h place v k → 0 < k → b < 256 → b + 256 * v < 2 ^ 64
  reading_room v k b r l c =
      let i = r.left in
      let n : 8 - k ≤ 7 = omega arith in
      let small : 256 ^ (8 - k) ≤ 256 ^ 7 = pow-le-pow_right {n = 256} (omega arith) n in
      let w = r.room in
      omega arith

  pub reading_next : (v k b : ℕ) → Reading f h place v k → 0 < k → b < 256 → b ≡ byte_of f (backing_of f h (place + (k - 1)) 1)
      → Reading f h place (b + 256 * v) (k - 1)
  unfolding loaded_in
  reading_next v k b r l c e =
      let i = r.left in
      let w = r.room in
      let n : 8 - (k - 1) ≡ suc (8 - k) = omega arith in
      let a : place + (k - 1) + 1 ≡ place + k = omega arith in
      let p : 256 ^ suc (8 - k) ≡ 256 ^ (8 - k) * 256 = pow-suc 256 (8 - k) in
      record { left = omega arith; value = rw (n, a, ← r.value, e); room = rw n (omega arith) }
