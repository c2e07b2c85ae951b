-- Bytes that stand in a list.
-- Assumes nothing.
use Rattle.std.specs.Prelude.{ℕ, ◌+◌, ◌<◌, ◌≡◌, List, length, get_or}

-- they are the n from a position on; those past the end are 0
pub record Stands (n : ℕ) (bytes s : List ℕ) (at : ℕ) : Type 0 where
  pub long : length bytes ≡ n
  pub each : (i : ℕ) → i < n → get_or bytes i 0 ≡ get_or s (at + i) 0
