-- Checks 7, 15, 8, 16 and 9 as one stage.
-- Assumes nothing.
use Rattle.std.specs.Prelude.{ℕ, List, length}
use Rattle.rules.specs.Outcome.{Outcome, good, and_then}
use Rattle.rules.specs.Tables.{relocations_of, descriptors_of}
use Rattle.rules.specs.Packed.{packed_of}
use Rattle.rules.specs.Descriptors.{globals_of}
use Rattle.rules.specs.declared.Headers.{Headers}
use Rattle.rules.specs.declared.Dynamic.{Dynamic}
use Rattle.rules.specs.declared.Module.{Module}
use Rattle.laws.proofs.Stages.{module_with}

-- checks 7, 15, 8, 16 and 9, and the module
unfoldable pub tables_stage : List ℕ → Headers → Dynamic → Outcome Module
tables_stage f h d =
    and_then (relocations_of f h d) (λ r.
    and_then (descriptors_of f h d) (λ t.
    and_then (packed_of f h d r) (λ k.
    and_then (globals_of f h t) (λ gs.
    good (module_with f h d r k t (length gs))))))
