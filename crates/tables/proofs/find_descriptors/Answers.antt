-- A table that is backed has at most as many bytes as a file, so their count fits.
-- Assumes nothing.
use Rattle.tables.proofs.Laws.{table_size}
use Rattle.rules.specs.Tables.{descriptors_of}
use native.Mathlib.Omega.{arith}
use Rattle.tables.proofs.find_descriptors.Goals as goal

pub returns-in_default : goal.returns-in_default
unfolding descriptors_of
returns-in_default c =
    rw (c.at.ensures, ← c.value_of-address.ensures, ← c.value_of-bytes.ensures, ← c.table_backing.ensures, c.in_default.is)

pub overflow_cast-result : goal.overflow_cast-result
overflow_cast-result c =
    let a = c.args in
    let h = table_size a.f.now a.h c.value_of-address.result c.value_of-bytes.result c.in-Some.at
    (rw (← c.table_backing.ensures) c.in-Some.is) in
    omega arith

pub returns : goal.returns
unfolding descriptors_of
returns c =
    rw (← c.value_of-address.ensures, ← c.value_of-bytes.ensures, ← c.table_backing.ensures, c.in-Some.is)
