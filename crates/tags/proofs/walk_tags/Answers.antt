-- The loop keeps that the whole plane is the plane from here on.
-- Assumes nothing.
use mathlib.Core.Path.{sym, ◌∙◌}
use native.Mathlib.Omega.{arith}
use Rattle.tags.proofs.WalkLaws.{tagged_none, tagged_next, tagged_end}
use Rattle.tags.proofs.walk_tags.Goals as goal

pub returns-in_default : goal.returns-in_default
returns-in_default c =
    let l = c.loop-i in
    let a = c.args in
    let none = rw c.from.ensures at (sym c.read_global.ensures ∙ c.in_default.is) in
    sym (l.invariant.1 ∙ tagged_none a.table.now l.i l.c a.choices.now a.globals (omega arith) l.plane none)

pub loop-i-preserved : goal.loop-i-preserved
loop-i-preserved c =
    let l = c.loop-i in
    let a = c.args in
    let k = c.in-Some in
    let some = rw c.from.ensures at (sym c.read_global.ensures ∙ k.is) in (
      omega arith,
      l.invariant.1 ∙ tagged_next a.table.now l.i l.c a.choices.now a.globals (omega arith) k.g k.next some l.plane _
          c.choice_at-tag.result c.choice_at-tag.ensures c.tag_global.ensures,
      c.tag_global.auto.plane ∙ l.invariant.2,
    )

pub returns : goal.returns
returns c =
    let l = c.loop-i in
    let a = c.args in
    sym (l.invariant.1 ∙ tagged_end a.table.now l.i l.c a.choices.now a.globals (omega arith) l.plane)
