-- The table of the picker's loop: from each start on the first tag that is allowed, and the one after it.
-- Assumes nothing.
use Rattle.std.specs.Prelude.{ℕ, ◌+◌, ◌*◌, ◌%◌, ◌<◌, ◌≡◌, true, List, get_or}
use Rattle.rules.specs.Picker.{tag_count, suits, pick_of}

-- some tag suits beside the one that is barred
pub record Suited (excluded barred : ℕ) : Type 0 where
  pub tag : ℕ
  pub low : tag < tag_count
  pub fit : suits excluded barred tag ≡ true

-- the first tag that is allowed after a tag
abbrev pub next_of : ℕ → ℕ → ℕ
next_of excluded tag = pick_of excluded 0 ((tag + 1) % tag_count)

-- of a global that does not abut on the one before the first tag will do; of one that does, that or the one after it; each two as one number
pub record Pairs (excluded : ℕ) (pairs : List ℕ) : Type 0 where
  pub apart : (start : ℕ) → start < tag_count → get_or pairs start 0 ≡ pick_of excluded 0 start + 256 * pick_of excluded 0 start
  pub abutting : (start : ℕ) → start < tag_count
      → get_or pairs (start + tag_count) 0 ≡ pick_of excluded 0 start + 256 * next_of excluded (pick_of excluded 0 start)
