-- The checks in their order; a refusal is passed up.
-- Assumes nothing.
use Rattle.rules.proofs.ResultLaws.{passed_up}
use Rattle.elf.proofs.Laws.{module_tables}
use Rattle.elf.proofs.read_module.Goals as goal

pub returns-in_default : goal.returns-in_default
returns-in_default c = rw (module_tables, ← rw c.unwrap_err.ensures at c.read_headers-read.ensures)

pub returns-in_err-check_loads : goal.returns-in_err-check_loads
returns-in_err-check_loads c =
    rw (
      passed_up c.from_residual.result c.in_err-check_loads.field-0.0 c.from_residual.ensures.1,
      module_tables,
      ← c.read_headers-read.ensures,
      c.in-Ok.is,
      ← c.check_loads.ensures,
      c.in_err-check_loads.was,
    )

pub returns-in_err-dynamic : goal.returns-in_err-dynamic
returns-in_err-dynamic c =
    rw (
      passed_up c.from_residual-in_err-dynamic.result c.in_err-dynamic.field-0.0 c.from_residual-in_err-dynamic.ensures.1,
      module_tables,
      ← c.read_headers-read.ensures,
      c.in-Ok.is,
      ← c.check_loads.ensures,
      c.in_ok-check_loads.was,
      ← c.find_dynamic.ensures,
      c.in_err-dynamic.was,
    )

pub returns-in_err-check_entries : goal.returns-in_err-check_entries
returns-in_err-check_entries c =
    rw (
      passed_up c.from_residual-in_err-check_entries.result c.in_err-check_entries.field-0.0 c.from_residual-in_err-check_entries.ensures.1,
      module_tables,
      ← c.read_headers-read.ensures,
      c.in-Ok.is,
      ← c.check_loads.ensures,
      c.in_ok-check_loads.was,
      ← c.find_dynamic.ensures,
      c.in_ok-dynamic.was,
      ← c.check_entries.ensures,
      c.in_err-check_entries.was,
    )

pub returns : goal.returns
returns c =
    rw (
      module_tables,
      ← c.read_headers-read.ensures,
      c.in-Ok.is,
      ← c.check_loads.ensures,
      c.in_ok-check_loads.was,
      ← c.find_dynamic.ensures,
      c.in_ok-dynamic.was,
      ← c.check_entries.ensures,
      c.in_ok-check_entries.was,
    ) c.read_tables.ensures
