-- The fields that were read are those of the rule, and the PT_LOAD found last covers the place.
-- Assumes nothing.
use Rattle.std.proofs.Common.{sym}
use Rattle.clear.proofs.Laws.{fits_span, entry_clear}
use Rattle.clear.proofs.is_clear_entry.Goals as goal

pub returns : goal.returns
returns c e =
    let a = c.args in
    let fit = fits_span a.f.now a.m.headers c.le64-place.result a.last c.requires.3 (sym c.if-not-fits.ensures) in
    entry_clear a.f.now a.m a.bias a.i c.requires.1 c.le64-place.result c.le32-kind.result c.le32-symbol.result c.le64-addend.result
    c.le64-place.ensures c.le32-kind.ensures c.le32-symbol.ensures c.le64-addend.ensures fit
    c.near_target-t.result (c.near_target-t.ensures a.m c.requires.2) (c.is_aimed.ensures e)
