-- The table is the file's part that the walk is over.
-- Assumes nothing.
use Rattle.rules.specs.Descriptors.{globals_of}
use Rattle.globals.proofs.count_globals.Goals as goal

pub returns : goal.returns
unfolding globals_of
returns c = rw (← c.part_of-table.ensures) c.walk_table.ensures
