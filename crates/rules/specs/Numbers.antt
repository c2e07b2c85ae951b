-- What reading a ULEB128 number answers, and what reading one descriptor finds, as the code has it.
-- Assumes nothing.
use Rattle.std.specs.Prelude.{ℕ, Bool, ◌&&◌, List, Option, Some, None, Result}
use Rattle.rules.specs.Outcome.{Outcome, mapped, and_then}
use Rattle.rules.specs.Answers.{of_result}
use Rattle.rules.specs.Descriptors.{Uleb, number, malformed, uleb_at, short_second, second, Read, global, judged}
use Rattle.rules.specs.declared.Global.{Global}
use Rattle.rules.specs.declared.Cursor.{Cursor}
use Rattle.rules.specs.declared.Refusal as declared

-- a number and the position after it, or none
abbrev pub of_uleb : Option (ℕ × ℕ) → Uleb
of_uleb (Some p) = number p.0 p.1
of_uleb None = malformed

-- a global and the cursor after it, or a refusal
abbrev pub of_global : Result (Global × Cursor) declared.Refusal → Outcome Read
of_global r = mapped (λ p. global p.0 p.1) (of_result r)

-- a descriptor from its second number on, after a first of a distance that is in shortest form or not
abbrev pub second_at : ℕ → Bool → List ℕ → ℕ → ℕ → ℕ → Outcome Read
second_at index tight s at end distance =
    and_then (second index distance (uleb_at s at)) (judged index (tight && short_second s at (uleb_at s at)) end)
