-- Checks in a row: every one passes, or the first that does not is answered.
-- Assumes nothing.
use Rattle.std.specs.Prelude.{◌≡◌, List, [], ◌∷◌, ◌⊎◌}
use Rattle.rules.specs.Outcome.{Outcome, good, bad, and_then, Refusal}

-- a check passes, or refuses
abbrev pub Check : Type 0
Check = Outcome (Unit {0})

-- the checks of a list, one after the other
abbrev pub runs : List Check → Check
runs [] = good tt
runs (c ∷ cs) = and_then c (λ _. runs cs)

-- a, where every check of a list passes
abbrev pub checked : {A : Type 0} → List Check → A → Outcome A
checked cs a = and_then (runs cs) (λ _. good a)

-- every check passes
abbrev pub All : List Check → Type 0
All [] = Unit
All (c ∷ cs) = (c ≡ good tt) × All cs

-- r is the refusal of the first that does not pass
abbrev pub First : List Check → Refusal → Type 0
First [] r = ⊥
First (c ∷ cs) r = (c ≡ bad r) ⊎ ((c ≡ good tt) × First cs r)
