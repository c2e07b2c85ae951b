-- The clear bits, where bit 0 counts as set.
-- Assumes nothing.
use mathlib.Core.Path.{◌∙◌}
use Rattle.tag_pairs.proofs.Laws.{clear_allowed}
use Rattle.tag_pairs.proofs.count_allowed.Goals as goal

pub returns : goal.returns
returns c = c.count_zeros.ensures.value ∙ clear_allowed c.args.excluded c.ranges.excluded.fits
