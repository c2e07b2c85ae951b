-- The globals by their count.
-- Assumes nothing.
use Prim.Native.Nat.{ℕ}
use mathlib.Core.Path.{◌≡◌, refl}
use mathlib.Core.List.{List}
use lib.ListN.{length}
use Rattle.rules.specs.Outcome.{Outcome, good, bad, and_then}
use Rattle.rules.specs.Descriptors.{globals_of}
use Rattle.rules.specs.Answers.{count_of}
use Rattle.rules.specs.declared.Headers.{Headers}
use Rattle.rules.specs.declared.Dynamic.{Dynamic}
use Rattle.rules.specs.declared.Relocations.{Relocations}
use Rattle.rules.specs.declared.Packed.{Packed}
use Rattle.rules.specs.declared.Descriptors.{Descriptors}
use Rattle.rules.specs.declared.Global.{Global}
use Rattle.laws.proofs.Stages.{module_with}

-- a check that goes on with the number of globals goes on with the count
count_then : {B : Type 0} (o : Outcome (List Global)) (k : ℕ → Outcome B) → and_then o (λ gs. k (length gs)) ≡ and_then (count_of o) k
count_then (good gs) k = refl
count_then (bad r) k = refl

pub globals_count : (f : List ℕ) (h : Headers) (d : Dynamic) (r : Relocations) (k : Packed) (t : Descriptors)
    → and_then (globals_of f h t) (λ gs. good (module_with f h d r k t (length gs)))
    ≡ and_then (count_of (globals_of f h t)) (λ n. good (module_with f h d r k t n))
globals_count f h d r k t = count_then (globals_of f h t) (λ n. good (module_with f h d r k t n))
