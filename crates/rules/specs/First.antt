-- The lowest index at which a test holds.
-- Assumes nothing.
use Rattle.std.specs.Prelude.{ℕ, zero, suc, ◌+◌, Bool, cond, ltb, eqb}
use Rattle.rules.specs.Outcome.{good, refuse}
use Rattle.rules.specs.Checks.{Check}

-- the first of the k indices from i on at which f holds, or i + k
unfoldable pub first : (ℕ → Bool) → ℕ → ℕ → ℕ
first f i zero = i
first f i (suc k) = cond (f i) i (first f (i + 1) k)

-- f holds at one of the indices below n
abbrev pub some_below : (ℕ → Bool) → ℕ → Bool
some_below f n = ltb (first f 0 n) n

-- at how many of the indices below n does f hold
unfoldable pub count_below : (ℕ → Bool) → ℕ → ℕ
count_below f zero = 0
count_below f (suc n) = count_below f n + cond (f n) 1 0

-- no fault where the lowest faulty index is n, the end; else the number with the position of that index
abbrev pub fault_at : ℕ → (ℕ → ℕ) → ℕ → ℕ → Check
fault_at number position n lowest = cond (eqb lowest n) (good tt) (refuse number (position lowest))

-- no fault at the indices below n; else the number with the position of the lowest faulty index
abbrev pub faults_at : ℕ → (ℕ → ℕ) → (ℕ → Bool) → ℕ → Check
faults_at number position fault n = fault_at number position n (first fault 0 n)

-- where an index is its own position
abbrev pub faultless : ℕ → (ℕ → Bool) → ℕ → Check
faultless number fault n = faults_at number (λ i. i) fault n
