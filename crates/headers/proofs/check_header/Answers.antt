-- The header's fields are read and judged.
-- Assumes nothing.
use Rattle.rules.specs.Headers.{header_check}
use Rattle.headers.proofs.check_header.Goals as goal

pub returns-then-fine : goal.returns-then-fine
unfolding header_check
returns-then-fine c =
    rw (
      ← c.read16.ensures,
      ← c.read16-2.ensures,
      ← c.read32.ensures,
      ← c.read16-3.ensures,
      ← c.read16-4.ensures,
      ← c.read64.ensures,
      ← c.is_good_header-fine.ensures,
      c.if-fine.true,
    )

pub returns : goal.returns
unfolding header_check
returns c =
    rw (
      c.at.ensures,
      ← c.read16.ensures,
      ← c.read16-2.ensures,
      ← c.read32.ensures,
      ← c.read16-3.ensures,
      ← c.read16-4.ensures,
      ← c.read64.ensures,
      ← c.is_good_header-fine.ensures,
      c.if-fine.false,
    )
