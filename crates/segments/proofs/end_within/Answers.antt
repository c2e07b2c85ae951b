-- By the kind of the header.
-- Assumes nothing.
use borrow.Author.Tests.{eq-eqb, ne_eqb}
use Rattle.segments.proofs.end_within.Goals as goal

pub returns-then-s-eq-PT_LOAD : goal.returns-then-s-eq-PT_LOAD
returns-then-s-eq-PT_LOAD c = rw (c.sum_within.ensures, eq-eqb _ _ c.if-s-eq-PT_LOAD.true)

pub returns : goal.returns
returns c = rw (ne_eqb _ _ c.if-s-eq-PT_LOAD.false)
