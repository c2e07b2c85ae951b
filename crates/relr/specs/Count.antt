-- How many places the words of a packed table name.
-- Assumes nothing.
use Rattle.std.specs.Prelude.{ℕ, ◌-◌, cond, List, length}
use Rattle.std.specs.Int.Count.{ones}
use Rattle.rules.specs.Outcome.{Outcome, good, and_then}
use Rattle.rules.specs.Packed.{is_place, packed_before, words_check}

-- how many places a word names, wherever the run stands
unfoldable pub count_of : ℕ → ℕ
count_of w = cond (is_place w) 1 (ones w - 1)

-- how many places the words of a table name; or check 15 of its words
abbrev pub count_in : List ℕ → ℕ → ℕ → ℕ → Outcome ℕ
count_in f at words entries = and_then (words_check f at entries words) (λ _. good (length (packed_before f at words)))
