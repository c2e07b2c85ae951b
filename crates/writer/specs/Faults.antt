-- The checks of the writer as its loop makes them: the first fault of a global, and the table's length from an index on.
-- Assumes nothing.
use Rattle.std.specs.Prelude.{ℕ, ◌+◌, ◌≡◌, Bool, cond, List, length, drop, Result, Ok, Err}
use Rattle.rules.specs.Outcome.{Outcome, good, refuse, and_then}
use Rattle.rules.specs.Checks.{Check, runs}
use Rattle.rules.specs.Answers.{list_number_of}
use Rattle.rules.specs.declared.ListReason.{ListReason}
use Rattle.rules.specs.Writer.{table_from, listed_checks, list_check}

-- a global that passes, or the reason of the first check that fails
abbrev pub Judgement : Type 0
Judgement = Result (Unit {0}) ListReason

-- what the checks of the global of index i come to
abbrev pub judged_at : ℕ → Judgement → Check
judged_at i (Ok u) = good tt
judged_at i (Err reason) = refuse (list_number_of reason) i

-- the first fault of a global after one that ends at end, whatever its index
abbrev pub Judged : ℕ → ℕ → ℕ → Judgement → Type 0
Judged end address size r = (i : ℕ) → runs (listed_checks i end address size) ≡ judged_at i r

-- the checks from the index i on, and the table's length with so many bytes before them, where it is counted
abbrev pub measured : List ℕ → List ℕ → Bool → ℕ → ℕ → ℕ → Outcome ℕ
measured addresses sizes counted i end total =
    and_then (list_check i end (drop i addresses) (drop i sizes))
    (λ _. good (cond counted (total + length (table_from end (drop i addresses) (drop i sizes))) total))
