-- The loop keeps that the first PT_DYNAMIC is the first from here on.
-- Assumes nothing.
use Rattle.rules.specs.Dynamic.{is_dynamic_at, dynamic_from}
use Rattle.rules.proofs.FirstLaws.{first_step, first-hit, first_none}
use Rattle.rules.proofs.OptionLaws.{search-hit, search-miss}
use mathlib.Core.Path.{refl, ◌∙◌}
use native.Mathlib.Omega.{arith}
use Rattle.dynamic.proofs.dynamic_from.Goals as goal

pub loop-i-init : goal.loop-i-init
loop-i-init c = (omega arith, refl)

pub returns-then-is_dynamic_at : goal.returns-then-is_dynamic_at
unfolding dynamic_from
returns-then-is_dynamic_at c =
    let l = c.loop-i in
    let a = c.args in
    let t = is_dynamic_at a.f.now a.h in
    let hit = l.invariant.1 ∙ first-hit t l.i a.h.count (omega arith) (rw (← c.is_dynamic_at.ensures) c.if-is_dynamic_at.true) in
    search-hit _ l.i a.h.count hit (omega arith)

pub loop-i-preserved : goal.loop-i-preserved
loop-i-preserved c =
    let l = c.loop-i in
    let a = c.args in
    let t = is_dynamic_at a.f.now a.h in
    (omega arith, l.invariant.1 ∙ first_step t l.i a.h.count (omega arith) (rw (← c.is_dynamic_at.ensures) c.if-is_dynamic_at.false))

pub returns : goal.returns
unfolding dynamic_from
returns c =
    let l = c.loop-i in
    let a = c.args in
    let t = is_dynamic_at a.f.now a.h in
    search-miss _ a.h.count (l.invariant.1 ∙ first_none t l.i a.h.count (omega arith) (omega arith))
