-- The loop keeps that the whole count is the globals read and the count from here on.
-- Assumes nothing.
use mathlib.Core.Path.{sym, ◌∙◌}
use native.Mathlib.Omega.{arith}
use Rattle.globals.proofs.Laws.{read_filled, read_fits, walking_outside, walking_next, walking_finish, walking_left, walking_whole}
use Rattle.globals.proofs.walk_table.Goals as goal

pub returns-in_default : goal.returns-in_default
returns-in_default c =
    let l = c.loop-i in
    let a = c.args in
    let none = rw c.from.ensures at (sym c.read_global.ensures ∙ c.in_default.is) in
    c.finish.ensures
    ∙ sym (walking_finish a.f.now a.h a.table.now l.c l.holder l.i l.invariant (omega arith) none)

pub overflow_mul-size : goal.overflow_mul-size
overflow_mul-size c =
    let l = c.loop-i in
    let a = c.args in
    let k = c.in-Some in
    let some = rw c.from.ensures at (sym c.read_global.ensures ∙ k.is) in
    omega (arith, read_fits a.f.now a.h a.table.now l.c l.holder l.i l.invariant k.g k.next some)

pub hold-requires : goal.hold-requires
hold-requires c =
    let l = c.loop-i in
    let a = c.args in
    let k = c.in-Some in
    let some = rw c.from.ensures at (sym c.read_global.ensures ∙ k.is) in
    (omega (arith, read_filled a.f.now a.h a.table.now l.c l.holder l.i l.invariant k.g k.next some), l.invariant.sound)

pub returns-in_default-hold : goal.returns-in_default-hold
returns-in_default-hold c =
    let l = c.loop-i in
    let a = c.args in
    let k = c.in-Some in
    let some = rw c.from.ensures at (sym c.read_global.ensures ∙ k.is) in
    rw (c.at.ensures, c.from-in_default-hold.ensures)
    (sym (walking_outside a.f.now a.h a.table.now l.c l.holder l.i l.invariant k.g k.next some (omega arith) c.in_default-hold.ensures))

pub loop-i-preserved : goal.loop-i-preserved
loop-i-preserved c =
    let l = c.loop-i in
    let a = c.args in
    let k = c.in-Some in
    let some = rw c.from.ensures at (sym c.read_global.ensures ∙ k.is) in
    let held = c.in-Some-hold.ensures in
    walking_next a.f.now a.h a.table.now l.c l.holder l.i l.invariant k.g k.next some c.in-Some-hold.span (omega arith) held.0 held.1

pub returns-then-c-table : goal.returns-then-c-table
returns-then-c-table c =
    let l = c.loop-i in
    let a = c.args in
    rw (c.at-then-c-table.ensures, c.from-then-c-table.ensures)
    (sym (walking_left a.f.now a.h a.table.now l.c l.holder l.i l.invariant (omega arith) (omega arith)))

pub returns : goal.returns
returns c =
    let l = c.loop-i in
    let a = c.args in
    sym (walking_whole a.f.now a.h a.table.now l.c l.holder l.i l.invariant (omega arith) (omega arith))
