-- The loop keeps that what is left to pick, put at the index, gives the picks.
-- Assumes nothing.
use native.Mathlib.Omega.{arith}
use Rattle.picker.proofs.Laws.{picking_start, picking_next, picking_done, walked_low}
use Rattle.tag_pairs.proofs.Laws.{suited_alone}
use Rattle.picker.proofs.fill_choices.Goals as goal

pub loop-i-init : goal.loop-i-init
loop-i-init c =
    let a = c.args in
    let g = a.checked.globals in
    picking_start g.addresses.now g.sizes.now a.random.now a.excluded g.equal c.requires.drawn a.choices.now c.requires.lent a.checked.passed

pub overflow_add-end : goal.overflow_add-end
overflow_add-end c =
    let g = c.args.checked.globals in
    let l = c.loop-i in
    let low = walked_low g.addresses.now g.sizes.now l.i l.end l.invariant.walked (omega arith) g.equal in
    omega arith

pub loop-i-preserved : goal.loop-i-preserved
loop-i-preserved c =
    let a = c.args in
    let g = a.checked.globals in
    let l = c.loop-i in
    picking_next g.addresses.now g.sizes.now a.random.now a.excluded g.equal c.requires.drawn l.i l.end l.last l.choices l.invariant (omega arith)
    c.pick-last.result c.requires.enough (λ some. c.pick-last.ensures a.excluded (c.pairs_of-pairs.ensures (suited_alone _ _ some)) some)

pub returns : goal.returns
returns c =
    let a = c.args in
    let g = a.checked.globals in
    let l = c.loop-i in
    picking_done g.addresses.now g.sizes.now a.random.now a.excluded g.equal c.requires.drawn l.i l.end l.last l.choices l.invariant (omega arith)
