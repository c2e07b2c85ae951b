-- The first field of the entry.
-- Assumes nothing.
use mathlib.Core.Path.{sym, ◌∙◌}
use borrow.Author.Rules.{rules}
use Rattle.laws.proofs.Items.{entry_place}
use Rattle.entry_faults.proofs.entry_place.Goals as goal

pub returns : goal.returns
returns c =
    let a = c.args in
    c.le64.ensures ∙ sym (entry_place a.f.now a.m a.i c.requires.1)

pub le64-requires : goal.le64-requires
le64-requires c = search rules
