-- The loop keeps that the first PT_LOAD that holds the bytes is the first from here on.
-- Assumes nothing.
use mathlib.Core.Path.{sym, ◌∙◌}
use native.Mathlib.Nat.{sub-zero}
use native.Mathlib.Omega.{arith}
use Rattle.rules.specs.Segments.{holds_at, in_memory}
use Rattle.rules.proofs.FirstLaws.{first_step, first_none, some_none}
use Rattle.segments.proofs.SpanLaws.{held_at}
use Rattle.segments.proofs.find_holder.Goals as goal

pub loop-i-init : goal.loop-i-init
loop-i-init c = (omega arith, rw sub-zero)

pub returns-then-is_holding_at : goal.returns-then-is_holding_at
returns-then-is_holding_at c =
    let l = c.loop-i in
    let a = c.args in
    held_at a.f.now a.h a.write a.a a.n l.i c.header_at-s.result c.requires (omega arith) c.header_at-s.ensures
    (sym c.is_holding_at.ensures ∙ c.if-is_holding_at.true)

pub loop-i-preserved : goal.loop-i-preserved
loop-i-preserved c =
    let l = c.loop-i in
    let a = c.args in
    let t = holds_at a.f.now a.h a.write a.a a.n in
    (omega arith, l.invariant.1 ∙ first_step t l.i a.h.count (omega arith) (sym c.is_holding_at.ensures ∙ c.if-is_holding_at.false))

pub returns : goal.returns
unfolding in_memory
returns c =
    let l = c.loop-i in
    let a = c.args in
    let t = holds_at a.f.now a.h a.write a.a a.n in
    some_none t a.h.count (l.invariant.1 ∙ first_none t l.i a.h.count (omega arith) (omega arith))
