-- The loop keeps that no global that is behind abuts.
-- Assumes nothing.
use mathlib.Core.Path.{sym, ◌∙◌}
use native.Mathlib.Nat.{sub-zero}
use native.Mathlib.Omega.{arith}
use Rattle.rules.proofs.FirstLaws.{first_step, first_none, at_some, some_none}
use Rattle.picker.proofs.Laws.{walked_start, walked_low, walked_next, walked_abuts}
use Rattle.picker.proofs.some_abut.Goals as goal

pub loop-i-init : goal.loop-i-init
loop-i-init c = (walked_start _ _ c.args.checked.passed, rw sub-zero)

pub returns-then-abuts : goal.returns-then-abuts
returns-then-abuts c =
    let g = c.args.checked.globals in
    let l = c.loop-i in
    let b = walked_abuts g.addresses.now g.sizes.now l.i l.end l.invariant.0 (omega arith) g.equal c.abuts.result c.abuts.ensures in
    sym (at_some _ _ l.i (omega arith) (b ∙ c.if-abuts.true))

pub overflow_add-end : goal.overflow_add-end
overflow_add-end c =
    let g = c.args.checked.globals in
    let l = c.loop-i in
    let low = walked_low g.addresses.now g.sizes.now l.i l.end l.invariant.0 (omega arith) g.equal in
    omega arith

pub loop-i-preserved : goal.loop-i-preserved
loop-i-preserved c =
    let g = c.args.checked.globals in
    let l = c.loop-i in
    let b = walked_abuts g.addresses.now g.sizes.now l.i l.end l.invariant.0 (omega arith) g.equal c.abuts.result c.abuts.ensures in (
      walked_next g.addresses.now g.sizes.now l.i l.end l.invariant.0 (omega arith) g.equal,
      l.invariant.1 ∙ first_step _ l.i _ (omega arith) (b ∙ c.if-abuts.false),
    )

pub returns : goal.returns
returns c =
    let l = c.loop-i in
    let b = l.invariant.0.below in
    sym (some_none _ _ (l.invariant.1 ∙ first_none _ l.i _ (omega arith) (omega arith)))
