-- Some entry is found.
-- Assumes nothing.
use Rattle.rules.specs.Dynamic.{has_tag}
use Rattle.rules.proofs.OptionLaws.{is_some-then_some}
use Rattle.entries.proofs.has_tag.Goals as goal

pub returns : goal.returns
unfolding has_tag
returns c = rw (c.is_some.ensures, c.find_tag.ensures, is_some-then_some)
