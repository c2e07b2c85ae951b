-- The fields of the header that the definition asks for, read one by one.
-- Assumes nothing.
use borrow.Author.Tests.{eq-eqb, ne_eqb}
use Rattle.rules.specs.Segments.{header_at, holds, holds_at}
use Rattle.segments.proofs.is_holding_at.Goals as goal
use Rattle.segments.proofs.is_holding_at.Goals.{else-write-via-then-write+else-read32-ne1, else-write-via-else-write}

pub returns-then-read32-ne-PT_LOAD : goal.returns-then-read32-ne-PT_LOAD
unfolding holds_at holds header_at
returns-then-read32-ne-PT_LOAD c = rw (← c.read32.ensures, ne_eqb _ _ c.if-read32-ne-PT_LOAD.true)

pub returns-then-read32-ne1 : goal.returns-then-read32-ne1
unfolding holds_at holds header_at
returns-then-read32-ne1 c =
    rw (
      ← c.read32-then-write.ensures,
      ne_eqb _ _ c.if-read32-ne1.true,
      c.if-write.true,
      ← c.read32.ensures,
      eq-eqb _ _ c.if-read32-ne-PT_LOAD.false,
    )

pub returns : goal.returns
unfolding holds_at holds header_at
returns c =
    elim c.else-write.branch [
      | else-write-via-then-write+else-read32-ne1 w ↦
          rw (
            c.holds_range.ensures,
            c.read64-2.ensures,
            c.read64.ensures,
            ← w.read32-then-write.ensures,
            eq-eqb _ _ w.if-read32-ne1.false,
            w.if-write.true,
            ← c.read32.ensures,
            eq-eqb _ _ c.if-read32-ne-PT_LOAD.false,
          )
      | else-write-via-else-write w ↦
          rw (
            c.holds_range.ensures,
            c.read64-2.ensures,
            c.read64.ensures,
            w.if-write.false,
            ← c.read32.ensures,
            eq-eqb _ _ c.if-read32-ne-PT_LOAD.false,
          )
    ]
