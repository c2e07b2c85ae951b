-- The walk of checks 10 and 11, and what it finds besides.
-- Assumes nothing.
use Rattle.std.specs.Prelude.{ℕ, List}
use Rattle.rules.specs.Outcome.{Outcome, good, and_then}
use Rattle.rules.specs.Relocations.{items, position_at, relocations_check, words_of}
use Rattle.rules.specs.Addresses.{bad_address}
use Rattle.rules.specs.declared.Module.{Module}
use Rattle.rules.specs.declared.Walked.{Walked}
use Rattle.tallies.specs.Tallies.{mark_of}

-- the words relocated, and the first address that check 13 refuses
unfoldable pub walked_of : List ℕ → Module → ℕ → Walked
walked_of f m bias = record {
  words = words_of f m;
  outside = mark_of (bad_address f m bias) (position_at f m) (items m);
}

-- checks 10 and 11, and what the walk finds besides
unfoldable pub walk_of : List ℕ → Module → ℕ → Outcome Walked
walk_of f m bias = and_then (relocations_check f m) (λ _. good (walked_of f m bias))
