-- The loop keeps that the whole check is the check from here on.
-- Assumes nothing.
use mathlib.Core.Path.{sym, ◌∙◌}
use native.Mathlib.Omega.{arith}
use Rattle.tags.proofs.WalkLaws.{choices_none, choices_bad, choices_next, choices_end}
use Rattle.tags.proofs.walk_choices.Goals as goal

pub returns-in_default : goal.returns-in_default
returns-in_default c =
    let l = c.loop-i in
    let a = c.args in
    let none = rw c.from.ensures at (sym c.read_global.ensures ∙ c.in_default.is) in
    sym (l.invariant.1 ∙ choices_none a.table.now l.i l.c a.choices.now a.globals (omega arith) l.last none)

pub returns-then-is_bad_choice : goal.returns-then-is_bad_choice
returns-then-is_bad_choice c =
    let l = c.loop-i in
    let a = c.args in
    let k = c.in-Some in
    let some = rw c.from.ensures at (sym c.read_global.ensures ∙ k.is) in
    rw (c.at.ensures, c.from-then-is_bad_choice.ensures)
    (sym (l.invariant.1 ∙ choices_bad a.table.now l.i l.c a.choices.now a.globals (omega arith) k.g k.next some l.last
    c.choice_at-choice.result c.is_bad_choice.result c.choice_at-choice.ensures c.is_bad_choice.ensures c.if-is_bad_choice.true))

pub loop-i-preserved : goal.loop-i-preserved
loop-i-preserved c =
    let l = c.loop-i in
    let a = c.args in
    let k = c.in-Some in
    let some = rw c.from.ensures at (sym c.read_global.ensures ∙ k.is) in (
      omega arith,
      l.invariant.1 ∙ choices_next a.table.now l.i l.c a.choices.now a.globals (omega arith) k.g k.next some l.last
          c.choice_at-choice.result c.is_bad_choice.result c.choice_at-choice.ensures c.is_bad_choice.ensures c.if-is_bad_choice.false,
    )

pub returns : goal.returns
returns c =
    let l = c.loop-i in
    let a = c.args in
    sym (l.invariant.1 ∙ choices_end a.table.now l.i l.c a.choices.now a.globals (omega arith) l.last)
