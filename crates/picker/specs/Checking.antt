-- The checks of the picker, one after the other, as its function makes them.
-- Assumes nothing.
use Rattle.std.specs.Prelude.{ℕ, List}
use Rattle.rules.specs.Checks.{Check, runs}
use Rattle.rules.specs.Picker.{picker_checks}

unfoldable pub checks_of : List ℕ → List ℕ → List ℕ → ℕ → ℕ → Check
checks_of addresses sizes random excluded n = runs (picker_checks addresses sizes random excluded n)
