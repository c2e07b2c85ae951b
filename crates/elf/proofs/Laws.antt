-- The module by its stages.
-- Assumes nothing.
use Prim.Native.Nat.{ℕ}
use mathlib.Core.Path.{◌≡◌}
use mathlib.Core.List.{List}
use Rattle.rules.specs.Outcome.{and_then}
use Rattle.rules.specs.Headers.{headers_of}
use Rattle.rules.specs.Segments.{loads_check}
use Rattle.rules.specs.Dynamic.{dynamic_of, known_tags, entries_check}
use Rattle.rules.specs.Reader.{module_of}
use Rattle.laws.proofs.Stages.{module_stages}
use Rattle.contents.specs.Stages.{tables_stage}

pub module_tables : (f : List ℕ) → module_of f ≡
    and_then (headers_of f) (λ h.
    and_then (loads_check f h) (λ _.
    and_then (dynamic_of f h) (λ d.
    and_then (entries_check known_tags f d) (λ _.
    tables_stage f h d))))
unfolding tables_stage
module_tables f = module_stages f
