-- Check 14: the choices, one a global.
-- Assumes nothing.
use Rattle.std.specs.Prelude.{ℕ, zero, suc, ◌+◌, ◌*◌, ◌-◌, Bool, false, not, ◌&&◌, ◌||◌, List, length, get_or, leb, eqb}
use Rattle.rules.specs.Outcome.{and_then, require}
use Rattle.rules.specs.Checks.{Check}
use Rattle.rules.specs.Limits.{granule}
use Rattle.rules.specs.First.{faultless}
use Rattle.rules.specs.Descriptors.{globals_listed}
use Rattle.rules.specs.declared.Global.{Global}
use Rattle.rules.specs.declared.Module.{Module}

-- the globals that a module's table lists
abbrev pub globals_in : List ℕ → Module → List Global
globals_in f m = globals_listed f m.headers m.descriptors

abbrev pub global_at : List Global → ℕ → Global
global_at gs i = get_or gs i (record { start = 0; granules = 0 })

abbrev pub end_of : Global → ℕ
end_of g = g.start + granule * g.granules

-- the global before the one of index i ends where that one starts
abbrev pub abuts : List Global → ℕ → Bool
abuts gs zero = false
abuts gs (suc i) = eqb (end_of (global_at gs i)) (global_at gs (suc i)).start

-- the least and the largest choice
abbrev pub choice_least : ℕ
choice_least = 1

abbrev pub choice_limit : ℕ
choice_limit = 15

-- a choice is 1 to 15 and differs from the one before when the two globals abut
unfoldable pub bad_choice : List Global → List ℕ → ℕ → Bool
bad_choice gs choices i =
    not (leb choice_least (get_or choices i 0) && leb (get_or choices i 0) choice_limit)
    || (abuts gs i && eqb (get_or choices (i - 1) 0) (get_or choices i 0))

-- check 14: a wrong number; else a bad choice
unfoldable pub choices_for : List Global → List ℕ → Check
choices_for gs choices =
    and_then (require (eqb (length choices) (length gs)) 14 (length gs)) (λ _.
    faultless 14 (bad_choice gs choices) (length gs))

abbrev pub choices_check : List ℕ → Module → List ℕ → Check
choices_check f m choices = choices_for (globals_in f m) choices
