-- A number of one or two bytes in shortest form.
-- Assumes nothing.
use Rattle.std.specs.Prelude.{ℕ, ◌*◌, ◌<◌, ◌≡◌, false, List, length, Option, Some, None, ⊤}
use Rattle.rules.specs.Descriptors.{number, uleb_at, padded}

-- the number at a position is this one, with the position after it, and not padded
pub record Short (s : List ℕ) (at value next : ℕ) : Type 0 where
  pub small : value < 128 * 128
  pub inside : at < length s
  pub read : uleb_at s at ≡ number value next
  pub tight : padded s at next ≡ false

-- what was read there; that none was says nothing
abbrev pub ShortAt : List ℕ → ℕ → Option (ℕ × ℕ) → Type 0
ShortAt s at None = ⊤
ShortAt s at (Some (v, next)) = Short s at v next
