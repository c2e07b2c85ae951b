-- The fields of the header that the definition asks for, read one by one.
-- Assumes nothing.
use borrow.Author.Tests.{eq-eqb, ne_eqb}
use Rattle.rules.specs.Segments.{header_at, backs, backs_at}
use Rattle.segments.proofs.is_backing_at.Goals as goal

pub returns-then-read32-ne-PT_LOAD : goal.returns-then-read32-ne-PT_LOAD
unfolding backs_at backs header_at
returns-then-read32-ne-PT_LOAD c = rw (← c.read32.ensures, ne_eqb _ _ c.if-read32-ne-PT_LOAD.true)

pub returns-then-holds_range : goal.returns-then-holds_range
unfolding backs_at backs header_at
returns-then-holds_range c =
    rw (
      c.sum_within.ensures,
      c.read64-then-holds_range.ensures,
      ← c.read64.ensures,
      ← c.read64-filesz.ensures,
      ← c.holds_range.ensures,
      c.if-holds_range.true,
      ← c.read32.ensures,
      eq-eqb _ _ c.if-read32-ne-PT_LOAD.false,
    )

pub returns-else-holds_range : goal.returns-else-holds_range
unfolding backs_at backs header_at
returns-else-holds_range c =
    rw (
      ← c.read64.ensures,
      ← c.read64-filesz.ensures,
      ← c.holds_range.ensures,
      c.if-holds_range.false,
      ← c.read32.ensures,
      eq-eqb _ _ c.if-read32-ne-PT_LOAD.false,
    )
