-- The bytes as the language reads them.
-- Assumes nothing.
use mathlib.Core.Path.{◌∙◌}
use Rattle.reads.proofs.Laws.{from64}
use Rattle.reads.proofs.le64.Goals as goal

pub returns : goal.returns
returns c = c.from_le_bytes.ensures ∙ from64 c.bytes.result c.args.s.now c.args.at c.bytes.ensures
