-- Numbers of a file are little_endian, and a RELA entry's info is its kind and its symbol.
-- Assumes nothing.
use Prim.Native.Nat.{ℕ, zero, suc, ◌+◌, ◌*◌, ◌-◌, ◌/◌, ◌%◌, ◌^◌, ◌<◌}
use mathlib.Core.Path.{◌≡◌, ap, ◌∙◌}
use mathlib.Core.List.{List}
use native.Mathlib.Nat.{pow-suc, add-mul-div_left, div-eq_of_lt, zero-add}
use native.Mathlib.Omega.{arith}
use lib.ListN.{get_or}
use lib.IntN.{pos}
use borrow.Author.Tests.{lt-ltb, le-ltb}
use Rattle.rules.specs.Bytes.{le}
use Rattle.rules.specs.Memory.{signed}
use Rattle.rules.proofs.BytesLaws.{le_split}
use Rattle.demands.specs.Writer.{Bytes}
use Rattle.demands.specs.Fields.{LittleEndian, TwosComplement, rela_info, rela_kind, rela_symbol}

pub le_below : (n : ℕ) (s : List ℕ) (x : ℕ) → Bytes s → le n s x < 256 ^ n
unfolding le
le_below zero s x b = omega arith
le_below (suc n) s x b = let h = le_below n s (x + 1) b in let c = b x in rw (pow-suc 256 n) (omega arith)

-- what stands above a number below a power
high_part : (a b p : ℕ) → a < p → (a + p * b) / p ≡ b
high_part a b p l = add-mul-div_left a b {y = p} (omega arith) ∙ rw (div-eq_of_lt l, zero-add)

low_byte : (f : List ℕ) (k x : ℕ) → Bytes f → le (suc k) f x % 256 ≡ get_or f x 0
unfolding le
low_byte f k x b = let c = b x in omega arith

byte_of : (f : List ℕ) (n at i : ℕ) → Bytes f → i < n → le n f at / 256 ^ i % 256 ≡ get_or f (at + i) 0
byte_of f n at i b l =
    let rest = n - (i + 1) in
    let k : n ≡ i + suc (n - (i + 1)) = omega arith in
    rw (k, le_split i (suc rest) f at, high_part (le i f at) (le (suc rest) f (at + i)) (256 ^ i) (le_below i f at b)) (low_byte f rest (at + i) b)

pub little_endian : (f : List ℕ) (n at : ℕ) → Bytes f → LittleEndian f n at (le n f at)
little_endian f n at b = record { fits = le_below n f at b; bytes = λ i l. byte_of f n at i b l }

-- two's complement
pub signed_numbers : (v : ℕ) → TwosComplement v (signed v)
signed_numbers v = record {
  plain = λ l. rw (lt-ltb v (2 ^ 63) l);
  below = λ l u.
      let z : 2 ^ 64 - suc (2 ^ 64 - suc v) ≡ v = omega arith in
      rw (le-ltb v (2 ^ 63) l, le-ltb (2 ^ 64) (suc (2 ^ 64 - suc v)) (omega arith)) (ap (λ (x : ℕ). pos x) z);
}

-- info: kind and symbol
module _ (f : List ℕ) (b : Bytes f) (x k : ℕ) where
  info_split : rela_info f x k ≡ le 4 f (x + 24 * k + 8) + 2 ^ 32 * le 4 f (x + 24 * k + 12)
  info_split =
      let e : x + 24 * k + 8 + 4 ≡ x + 24 * k + 12 = omega arith in
      rw e at (le_split 4 4 f (x + 24 * k + 8))

  pub info_kind : rela_kind f x k ≡ le 4 f (x + 24 * k + 8)
  info_kind = let s = info_split in let l = le_below 4 f (x + 24 * k + 8) b in omega arith

  pub info_symbol : rela_symbol f x k ≡ le 4 f (x + 24 * k + 12)
  info_symbol = let s = info_split in let l = le_below 4 f (x + 24 * k + 8) b in omega arith
