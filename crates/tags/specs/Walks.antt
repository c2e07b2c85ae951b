-- The two walks over a descriptor table: the choices judged, and the plane tagged, one global at a time.
-- Assumes nothing.
use Rattle.std.specs.Prelude.{ℕ, zero, suc, ◌+◌, Bool, cond, not, ◌&&◌, ◌||◌, List, get_or, leb, eqb}
use Rattle.rules.specs.Outcome.{Outcome, good, bad, refuse}
use Rattle.rules.specs.Checks.{Check}
use Rattle.rules.specs.Descriptors.{Read, finished, global, step_at}
use Rattle.rules.specs.Choices.{choice_least, choice_limit}
use Rattle.rules.specs.Plane.{put_tag}
use Rattle.rules.specs.declared.Global.{Global}
use Rattle.rules.specs.declared.Cursor.{Cursor}

-- a walk goes on with the global that was read, and is done where none was
abbrev pub on_step : {A : Type 0} → Outcome Read → A → (Global → Cursor → A) → A
on_step (good finished) done more = done
on_step (good (global g c)) done more = more g c
on_step (bad r) done more = done

-- the choice of index i for a global at start is bad, after a global that ends at end and took the choice last
unfoldable pub bad_after : ℕ → ℕ → ℕ → ℕ → ℕ → Bool
bad_after i end last start choice =
    not (leb choice_least choice && leb choice choice_limit)
    || ((not (eqb i 0) && eqb end start) && eqb last choice)

-- check 14 of the n choices from the index i on, read at a cursor, after the choice last
unfoldable pub choices_from : List ℕ → List ℕ → ℕ → ℕ → ℕ → Cursor → Check
choices_from s choices zero i last c = good tt
choices_from s choices (suc n) i last c =
    on_step (step_at i s c) (good tt) (λ g next.
    cond (bad_after i c.end last g.start (get_or choices i 0)) (refuse 14 i)
    (choices_from s choices n (i + 1) (get_or choices i 0) next))

-- the plane after the n globals from the index i on, read at a cursor, took their choices
unfoldable pub tagged_from : List ℕ → List ℕ → List ℕ → ℕ → ℕ → Cursor → List ℕ
tagged_from s choices plane zero i c = plane
tagged_from s choices plane (suc n) i c =
    on_step (step_at i s c) plane (λ g next.
    tagged_from s choices (put_tag plane g (get_or choices i 0)) n (i + 1) next)
