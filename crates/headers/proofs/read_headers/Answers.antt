-- The checks; a refusal is passed up. The header table begins inside the file, so its position fits.
-- Assumes nothing.
use mathlib.Core.Path.{sym}
use native.Mathlib.Omega.{arith}
use Rattle.rules.specs.Headers.{headers_of}
use Rattle.rules.proofs.ResultLaws.{passed_up}
use Rattle.headers.proofs.Laws.{table_within}
use Rattle.headers.proofs.read_headers.Goals as goal

pub returns-in_err-check_file : goal.returns-in_err-check_file
unfolding headers_of
returns-in_err-check_file c =
    rw (
      passed_up c.from_residual.result c.in_err-check_file.field-0.0 c.from_residual.ensures.1,
      ← c.check_file.ensures,
      c.in_err-check_file.was,
    )

pub overflow_cast-result : goal.overflow_cast-result
overflow_cast-result c =
    let h = table_within c.args.f.now (sym (rw c.in_ok-check_file.was at c.check_file.ensures)) in
    omega (arith, c.read64.ensures)

pub returns : goal.returns
unfolding headers_of
returns c = rw (← c.check_file.ensures, c.in_ok-check_file.was, c.read64.ensures, c.read16.ensures)
