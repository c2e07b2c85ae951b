-- Counted or not.
-- Assumes nothing.
use mathlib.Core.Path.{◌∙◌}
use Rattle.writer.proofs.counted_length.Goals as goal

pub returns-then-counted : goal.returns-then-counted
returns-then-counted c = c.descriptor_length.ensures ∙ rw c.if-counted.true

pub returns : goal.returns
returns c = rw c.if-counted.false
