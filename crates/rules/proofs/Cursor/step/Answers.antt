-- The branches are the definition's tests in its order.
-- Assumes nothing.
use native.Mathlib.Omega.{arith}
use Rattle.rules.proofs.ResultLaws.{passed_up}
use Rattle.rules.proofs.DescriptorLaws.{step_past, step_uneven, step_high, step_reads, step_ends}
use Rattle.rules.proofs.Cursor.step.Goals as goal

pub returns-then-length-position : goal.returns-then-length-position
returns-then-length-position c =
    let a = c.args in
    rw (c.at.ensures, step_past a.index a.table.now a.self (omega arith))

pub returns-then-end-ne0 : goal.returns-then-end-ne0
returns-then-end-ne0 c =
    let a = c.args in
    rw (c.at-then-end-ne0.ensures, step_uneven a.index a.table.now a.self (omega arith) c.if-end-ne0.true)

pub returns-then-end-gt-ADDRESS_LIMIT : goal.returns-then-end-gt-ADDRESS_LIMIT
returns-then-end-gt-ADDRESS_LIMIT c =
    let a = c.args in
    rw (c.at-then-end-gt-ADDRESS_LIMIT.ensures, step_high a.index a.table.now a.self (omega arith) (omega arith) (omega arith))

pub returns-then-position-length : goal.returns-then-position-length
returns-then-position-length c =
    let a = c.args in
    rw (step_ends a.index a.table.now a.self (omega arith) (omega arith) (omega arith))

pub returns-in_err-read : goal.returns-in_err-read
returns-in_err-read c =
    let a = c.args in
    rw (
      passed_up c.from_residual.result c.in_err-read.field-0.0 c.from_residual.ensures.1,
      step_reads a.index a.table.now a.self (omega arith) (omega arith) (omega arith),
      ← c.read_first.ensures,
      c.in_err-read.was,
    )

pub returns : goal.returns
returns c =
    let a = c.args in
    rw (step_reads a.index a.table.now a.self (omega arith) (omega arith) (omega arith), ← c.read_first.ensures, c.in_ok-read.was)
