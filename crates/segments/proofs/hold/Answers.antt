-- The PT_LOAD found last holds the bytes, or the search goes over all.
-- Assumes nothing.
use mathlib.Core.Path.{sym, ◌∙◌}
use Rattle.segments.proofs.SpanLaws.{held_last}
use Rattle.segments.proofs.hold.Goals as goal

pub returns-then-holds_range : goal.returns-then-holds_range
returns-then-holds_range c =
    let a = c.args in
    held_last a.f.now a.h a.write a.a a.n a.last c.requires.0 c.requires.1
    (sym c.holds_range.ensures ∙ c.if-holds_range.true)

pub returns : goal.returns
returns c = c.find_holder.ensures
