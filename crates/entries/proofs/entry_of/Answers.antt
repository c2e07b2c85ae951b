-- The value of the entry that is found.
-- Assumes nothing.
use Rattle.rules.specs.Dynamic.{entry_of, has_tag}
use Rattle.rules.proofs.OptionLaws.{then_some-there, then_some-none}
use Rattle.entries.proofs.entry_of.Goals as goal

pub returns-in_err-i : goal.returns-in_err-i
unfolding entry_of has_tag
returns-in_err-i c = rw (c.from_residual.ensures, then_some-none _ _ c.in_err-i.ensures)

pub returns : goal.returns
unfolding entry_of has_tag
returns c = let e = then_some-there _ _ _ c.in_ok-i.ensures in rw (c.value_at.ensures, e.0, e.1)
