-- The loop keeps that the first partnerless row is the first from here on.
-- Assumes nothing.
use Rattle.rules.specs.Dynamic.{partnerless, known_tags}
use Rattle.rules.proofs.FirstLaws.{first_step, first-hit, first_none, some_hit, some_none}
use mathlib.Core.Path.{sym, ◌∙◌}
use native.Mathlib.Omega.{arith}
use Rattle.entries.proofs.lacks_partner.Goals as goal

pub returns-then-is_partnerless : goal.returns-then-is_partnerless
unfolding partnerless
returns-then-is_partnerless c =
    let r = c.loop-row.row-index in
    let a = c.args in
    let t = partnerless known_tags a.f.now a.d in
    sym (some_hit t 15 r (omega arith) (c.loop-row.invariant ∙ first-hit t r 15 (omega arith) (sym c.is_partnerless.ensures
    ∙ c.if-is_partnerless.true)))

pub loop-row-preserved : goal.loop-row-preserved
unfolding partnerless
loop-row-preserved c =
    let r = c.loop-row.row-index in
    let a = c.args in
    let t = partnerless known_tags a.f.now a.d in
    c.loop-row.invariant ∙ first_step t r 15 (omega arith) (sym c.is_partnerless.ensures ∙ c.if-is_partnerless.false)

pub returns : goal.returns
returns c =
    let r = c.loop-row.row-index in
    let a = c.args in
    let t = partnerless known_tags a.f.now a.d in
    sym (some_none t 15 (c.loop-row.invariant ∙ first_none t r 15 (omega arith) (omega arith)))
