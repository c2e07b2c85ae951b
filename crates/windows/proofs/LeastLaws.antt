-- The lowest index at which a test holds.
-- Assumes nothing.
use Prim.Native.Nat.{ℕ, ◌+◌, ◌<◌}
use mathlib.Core.Path.{◌≡◌}
use mathlib.Core.Bool.{Bool, false}
use mathlib.Core.Logic.{⊎_elim}
use native.Mathlib.Nat.{eq-or-lt_of_le}
use native.Mathlib.Omega.{arith}
use Rattle.rules.specs.First.{first}
use Rattle.rules.proofs.FirstLaws.{first_is}
use Rattle.windows.specs.Window.{NoneBelow, Least}

module _ (f : ℕ → Bool) where
  -- the lowest index is the first; where there is none, the first is the end
  pub least_first : (n v : ℕ) → Least f n v → v ≡ first f 0 n
  least_first n v s = let below = s.below in first_is f n v (omega arith) (λ _. s.holds) s.none

  pub none_first : (n : ℕ) → NoneBelow f n → n ≡ first f 0 n
  none_first n none = first_is f n n (omega arith) (λ l. absurd (omega arith)) none

  -- an index more
  pub none_next : (i : ℕ) → NoneBelow f i → f i ≡ false → NoneBelow f (i + 1)
  none_next i none e j l =
      ⊎_elim (λ (q : j ≡ i). rw q e) (λ (q : j < i). none j q) (eq-or-lt_of_le (omega arith))
