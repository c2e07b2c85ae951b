-- What a check comes to: a value, or a refusal with document 01's number and position.
-- Assumes nothing.
use Rattle.std.specs.Prelude.{ℕ, Bool, cond}

-- document 01's number and position of a refusal
pub record Refusal : Type 0 where
  pub number : ℕ
  pub position : ℕ

pub data Outcome (A : Type 0) : Type 0 where
  good : A → Outcome A
  bad : Refusal → Outcome A

-- a refusal's number and position
abbrev pub refusal : ℕ → ℕ → Refusal
refusal number position = record { number = number; position = position }

abbrev pub refuse : {A : Type 0} → ℕ → ℕ → Outcome A
refuse number position = bad (refusal number position)

-- the next check runs on what the one before found; a refusal is passed up unchanged
abbrev pub and_then : {A B : Type 0} → Outcome A → (A → Outcome B) → Outcome B
and_then (good a) k = k a
and_then (bad r) k = bad r

-- what a check found; the other value stands for a refusal
abbrev pub found : {A : Type 0} → A → Outcome A → A
found other (good a) = a
found other (bad r) = other

-- a check by something of what it finds
abbrev pub mapped : {A B : Type 0} → (A → B) → Outcome A → Outcome B
mapped g (good a) = good (g a)
mapped g (bad r) = bad r

-- a check that finds something: does it pass
abbrev pub passed : {A : Type 0} → Outcome A → Outcome (Unit {0})
passed o = mapped (λ _. tt) o

-- a test, refused with a number and position where it does not hold
abbrev pub require : Bool → ℕ → ℕ → Outcome (Unit {0})
require test number position = cond test (good tt) (refuse number position)
