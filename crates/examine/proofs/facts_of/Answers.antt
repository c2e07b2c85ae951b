-- Each fact is one call's answer, but for the words, which were counted.
-- Assumes nothing.
use Rattle.rules.specs.Examine.{facts_of}
use Rattle.examine.proofs.facts_of.Goals as goal

pub returns : goal.returns
unfolding facts_of
returns c =
    rw (
      c.requires,
      c.from-3.ensures,
      c.entry_of-3.ensures,
      c.from-2.ensures,
      c.entry_of-2.ensures,
      c.from.ensures,
      c.entry_of.ensures,
    )
