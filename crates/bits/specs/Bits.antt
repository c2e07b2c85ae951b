-- A map of words of memory: a bit for each, eight to a byte, 1 where the map has the word.
-- Assumes nothing.
use Rattle.std.specs.Prelude.{ℕ, ◌+◌, ◌/◌, ◌%◌, ◌^◌, Bool, List, get_or, set, eqb}

-- the map has a word
unfoldable pub has : List ℕ → ℕ → Bool
has map word = eqb (get_or map (word / 8) 0 / 2 ^ (word % 8) % 2) 1

-- the map with a word that it lacks
unfoldable pub with_word : List ℕ → ℕ → List ℕ
with_word map word = set map (word / 8) (get_or map (word / 8) 0 + 2 ^ (word % 8))
