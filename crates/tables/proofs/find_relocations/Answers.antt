-- The table is looked up; so many entries as are allowed fit.
-- Assumes nothing.
use borrow.Author.Tests.{lt-leb, le-leb}
use Rattle.rules.specs.Tables.{relocations_of}
use Rattle.tables.proofs.find_relocations.Goals as goal

pub returns-in_default : goal.returns-in_default
unfolding relocations_of
returns-in_default c =
    rw (c.at.ensures, ← c.value_of-address.ensures, ← c.value_of-bytes.ensures, ← c.table_backing.ensures, c.in_default.is)

pub returns-then-entries : goal.returns-then-entries
unfolding relocations_of
returns-then-entries c =
    rw (
      c.at-then-entries.ensures,
      ← c.value_of-address.ensures,
      ← c.value_of-bytes.ensures,
      ← c.table_backing.ensures,
      c.in-Some.is,
      lt-leb _ _ c.if-entries.true,
    )

pub returns : goal.returns
unfolding relocations_of
returns c =
    rw (← c.value_of-address.ensures, ← c.value_of-bytes.ensures, ← c.table_backing.ensures, c.in-Some.is, le-leb _ _ c.if-entries.false)
