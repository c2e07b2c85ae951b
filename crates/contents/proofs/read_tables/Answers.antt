-- Each check on what those before it found; a refusal is passed up.
-- Assumes nothing.
use Rattle.rules.proofs.ResultLaws.{passed_up}
use Rattle.contents.specs.Stages.{tables_stage}
use Rattle.contents.proofs.Laws.{globals_count}
use Rattle.contents.proofs.read_tables.Goals as goal

pub returns-in_err-relocations : goal.returns-in_err-relocations
unfolding tables_stage
returns-in_err-relocations c =
    rw (
      passed_up c.from_residual.result c.in_err-relocations.field-0.0 c.from_residual.ensures.1,
      ← c.find_relocations.ensures,
      c.in_err-relocations.was,
    )

pub returns-in_err-descriptors : goal.returns-in_err-descriptors
unfolding tables_stage
returns-in_err-descriptors c =
    rw (
      passed_up c.from_residual-in_err-descriptors.result c.in_err-descriptors.field-0.0 c.from_residual-in_err-descriptors.ensures.1,
      ← c.find_relocations.ensures,
      c.in_ok-relocations.was,
      ← c.find_descriptors.ensures,
      c.in_err-descriptors.was,
    )

pub returns-in_err-packed : goal.returns-in_err-packed
unfolding tables_stage
returns-in_err-packed c =
    rw (
      passed_up c.from_residual-in_err-packed.result c.in_err-packed.field-0.0 c.from_residual-in_err-packed.ensures.1,
      ← c.find_relocations.ensures,
      c.in_ok-relocations.was,
      ← c.find_descriptors.ensures,
      c.in_ok-descriptors.was,
      ← c.find_packed.ensures,
      c.in_err-packed.was,
    )

pub returns-in_err-count : goal.returns-in_err-count
unfolding tables_stage
returns-in_err-count c =
    let a = c.args in
    rw (
      passed_up c.from_residual-in_err-count.result c.in_err-count.field-0.0 c.from_residual-in_err-count.ensures.1,
      ← c.find_relocations.ensures,
      c.in_ok-relocations.was,
      ← c.find_descriptors.ensures,
      c.in_ok-descriptors.was,
      ← c.find_packed.ensures,
      c.in_ok-packed.was,
      globals_count a.f.now a.h a.d c.in_ok-relocations.relocations c.in_ok-packed.packed c.in_ok-descriptors.descriptors,
      ← c.count_globals.ensures,
      c.in_err-count.was,
    )

pub returns : goal.returns
unfolding tables_stage
returns c =
    let a = c.args in
    rw (
      ← c.find_relocations.ensures,
      c.in_ok-relocations.was,
      ← c.find_descriptors.ensures,
      c.in_ok-descriptors.was,
      ← c.find_packed.ensures,
      c.in_ok-packed.was,
      globals_count a.f.now a.h a.d c.in_ok-relocations.relocations c.in_ok-packed.packed c.in_ok-descriptors.descriptors,
      ← c.count_globals.ensures,
      c.in_ok-count.was,
      ← c.entry_of.ensures,
    )
