-- Each field is one read.
-- Assumes nothing.
use Rattle.rules.specs.Segments.{header_at}
use Rattle.segments.proofs.header_at.Goals as goal

pub returns : goal.returns
unfolding header_at
returns c = cc
