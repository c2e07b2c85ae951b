-- A table of 0 bytes is taken at 0; any other is looked up.
-- Assumes nothing.
use Rattle.rules.specs.Tables.{table_backing}
use borrow.Author.Tests.{eq-eqb, ne_eqb}
use Rattle.tables.proofs.table_backing.Goals as goal

pub returns-then-bytes-eq0 : goal.returns-then-bytes-eq0
unfolding table_backing
returns-then-bytes-eq0 c = rw (eq-eqb _ _ c.if-bytes-eq0.true)

pub returns : goal.returns
unfolding table_backing
returns c = rw (ne_eqb _ _ c.if-bytes-eq0.false) c.backing_of.ensures
