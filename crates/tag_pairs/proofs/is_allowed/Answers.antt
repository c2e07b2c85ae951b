-- Tag 0, and the bit of any other.
-- Assumes nothing.
use borrow.Author.Tests.{ne_eqb}
use Rattle.rules.specs.Picker.{allowed}
use Rattle.tag_pairs.proofs.is_allowed.Goals as goal

pub returns-then-tag-ne-UNTAGGED : goal.returns-then-tag-ne-UNTAGGED
unfolding allowed
returns-then-tag-ne-UNTAGGED c = rw (ne_eqb _ 0 c.if-tag-ne-UNTAGGED.true)

pub returns-else-tag-ne-UNTAGGED : goal.returns-else-tag-ne-UNTAGGED
unfolding allowed
returns-else-tag-ne-UNTAGGED c = rw c.if-tag-ne-UNTAGGED.false
