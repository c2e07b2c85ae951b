-- ULEB128 on its own words: seven bits a byte, the lowest first, each of 128 or more followed by another, at most ten, the tenth 0 or 1.
-- Assumes nothing.
use Rattle.std.specs.Prelude.{ℕ, ◌+◌, ◌/◌, ◌%◌, ◌^◌, ◌≤◌, ◌<◌, ◌≡◌, List, ◌↔◌, length, get_or}
use Rattle.rules.specs.Descriptors.{number, uleb_at}

-- the bytes of s at a position are a number v, and the next byte stands at next
pub record Uleb128 (s : List ℕ) (at v next : ℕ) : Type 0 where
  pub count : ℕ
  pub some : 1 ≤ count
  pub few : count ≤ 10
  pub ends : next ≡ at + count
  pub inside : next ≤ length s
  pub followed : (i : ℕ) → i + 1 < count → 128 ≤ get_or s (at + i) 0
  pub last : (i : ℕ) → i + 1 ≡ count → get_or s (at + i) 0 < 128
  pub tenth : count ≡ 10 → get_or s (at + 9) 0 < 2
  pub fits : v < 128 ^ count
  pub digits : (i : ℕ) → i < count → v / 128 ^ i % 128 ≡ get_or s (at + i) 0 % 128

-- a number is read exactly so
abbrev pub UlebClaim : Type 0
UlebClaim = (s : List ℕ) (at v next : ℕ) → (uleb_at s at ≡ number v next) ↔ Uleb128 s at v next
