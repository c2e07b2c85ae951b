-- The entry of the row and the start, and of its two tags the one that is not barred.
-- Assumes nothing.
use Rattle.tag_pairs.proofs.Laws.{table_pick}
use Rattle.tag_pairs.proofs.pick.Goals as goal

pub returns : goal.returns
returns c x t some =
    let a = c.args in
    rw (c.shift_of-shift.ensures.0, c.row_of.ensures.0)
    (table_pick x a.last a.random a.pairs.now t a.abutting some)
