-- Checks 12 to 14 by what the walk of 10 and 11 found.
-- Assumes nothing.
use Rattle.std.specs.Prelude.{ℕ, List, Option, Some, None}
use Rattle.rules.specs.Outcome.{good, refuse, and_then}
use Rattle.rules.specs.Checks.{Check}
use Rattle.rules.specs.Lending.{lending_check}
use Rattle.rules.specs.Choices.{choices_check}
use Rattle.rules.specs.declared.Module.{Module}

-- check 13 by the position of the first address out of range
unfoldable pub outside_check : Option ℕ → Check
outside_check None = good tt
outside_check (Some position) = refuse 13 position

-- checks 12 to 14, where the first address out of range is known
unfoldable pub lent_in : List ℕ → Module → Option ℕ → ℕ → ℕ → ℕ → List ℕ → Check
lent_in f m outside bias n p choices =
    and_then (lending_check f m bias n p) (λ _.
    and_then (outside_check outside) (λ _.
    choices_check f m choices))
