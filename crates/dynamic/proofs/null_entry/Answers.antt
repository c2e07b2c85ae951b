-- The loop keeps that the first DT_NULL is the first from here on.
-- Assumes nothing.
use Rattle.rules.specs.Dynamic.{is_null_at, null_entry}
use native.Mathlib.Nat.{sub-zero}
use Rattle.rules.proofs.FirstLaws.{first_step, first-hit, first_none}
use Rattle.rules.proofs.OptionLaws.{search-hit, search-miss}
use mathlib.Core.Path.{◌∙◌}
use native.Mathlib.Omega.{arith}
use Rattle.dynamic.proofs.null_entry.Goals as goal

pub loop-i-init : goal.loop-i-init
loop-i-init c = (omega arith, rw sub-zero)

pub returns-then-is_null_at : goal.returns-then-is_null_at
unfolding null_entry
returns-then-is_null_at c =
    let l = c.loop-i in
    let a = c.args in
    let t = is_null_at a.f.now a.at in
    let hit = l.invariant.1 ∙ first-hit t l.i a.n (omega arith) (rw (← c.is_null_at.ensures) c.if-is_null_at.true) in
    search-hit _ l.i a.n hit (omega arith)

pub loop-i-preserved : goal.loop-i-preserved
loop-i-preserved c =
    let l = c.loop-i in
    let a = c.args in
    let t = is_null_at a.f.now a.at in
    (omega arith, l.invariant.1 ∙ first_step t l.i a.n (omega arith) (rw (← c.is_null_at.ensures) c.if-is_null_at.false))

pub returns : goal.returns
unfolding null_entry
returns c =
    let l = c.loop-i in
    let a = c.args in
    let t = is_null_at a.f.now a.at in
    search-miss _ a.n (l.invariant.1 ∙ first_none t l.i a.n (omega arith) (omega arith))
