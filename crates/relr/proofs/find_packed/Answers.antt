-- The table is looked up, then its words are counted; one that is backed has at most as many bytes as a file.
-- Assumes nothing.
use native.Mathlib.Omega.{arith}
use Rattle.rules.specs.Packed.{packed_of}
use Rattle.rules.proofs.ResultLaws.{passed_up}
use Rattle.tables.proofs.Laws.{table_size}
use Rattle.relr.proofs.Laws.{packed_count_lem}
use Rattle.relr.proofs.find_packed.Goals as goal

pub returns-in_default : goal.returns-in_default
unfolding packed_of
returns-in_default c =
    rw (c.at.ensures, ← c.value_of-address.ensures, ← c.value_of-bytes.ensures, ← c.table_backing.ensures, c.in_default.is)

pub overflow_cast-words : goal.overflow_cast-words
overflow_cast-words c =
    let a = c.args in
    let h = table_size a.f.now a.h c.value_of-address.result c.value_of-bytes.result c.in-Some.at
    (rw (← c.table_backing.ensures) c.in-Some.is) in
    omega arith

pub returns-in_err-places : goal.returns-in_err-places
unfolding packed_of
returns-in_err-places c =
    rw (
      passed_up c.from_residual.result c.in_err-places.field-0.0 c.from_residual.ensures.1,
      ← c.value_of-address.ensures,
      ← c.value_of-bytes.ensures,
      ← c.table_backing.ensures,
      c.in-Some.is,
      packed_count_lem,
      ← c.count_places.ensures,
      c.in_err-places.was,
    )

pub returns : goal.returns
unfolding packed_of
returns c =
    rw (
      ← c.value_of-address.ensures,
      ← c.value_of-bytes.ensures,
      ← c.table_backing.ensures,
      c.in-Some.is,
      packed_count_lem,
      ← c.count_places.ensures,
      c.in_ok-places.was,
    )
