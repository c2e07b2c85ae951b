-- A first number of one or two bytes with a size is the whole descriptor; any other is read by the step.
-- Assumes nothing.
use native.Mathlib.Omega.{arith}
use Rattle.descriptors.proofs.Laws.{read_short}
use Rattle.descriptors.proofs.read_global.Goals as goal

pub returns-then-c-distance : goal.returns-then-c-distance
returns-then-c-distance c =
    let a = c.args in
    let v = c.in-Some.value in
    let next = c.in-Some.next in
    let n = c.in-Some.ensures in
    rw (read_short a.index a.table.now a.c v next n (omega arith) c.if-c-eq0.true (omega (arith, n.small)))
