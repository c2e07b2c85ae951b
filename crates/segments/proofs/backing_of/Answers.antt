-- The loop keeps that the first PT_LOAD that backs the bytes is the first from here on.
-- Assumes nothing.
use borrow.Author.Tests.{lt-ltb, le-ltb}
use Rattle.rules.specs.Segments.{backs_at, backer, backing_of}
use native.Mathlib.Nat.{sub-zero}
use Rattle.rules.proofs.FirstLaws.{first_step, first-hit, first_none}
use Rattle.rules.specs.First.{first}
use mathlib.Core.Path.{◌≡◌, ◌∙◌}
use mathlib.Core.Bool.{true}
use native.Mathlib.Omega.{arith}
use Rattle.segments.proofs.backing_of.Goals as goal

pub loop-i-init : goal.loop-i-init
loop-i-init c = (omega arith, rw sub-zero)

pub backing_at-requires : goal.backing_at-requires
backing_at-requires c = rw (← c.is_backing_at.ensures) c.if-is_backing_at.true

pub returns-then-is_backing_at : goal.returns-then-is_backing_at
unfolding backing_of backer
returns-then-is_backing_at c =
    let l = c.loop-i in
    let a = c.args in
    let t = backs_at a.f.now a.h a.a a.n in
    let found : t l.i ≡ true = rw (← c.is_backing_at.ensures) c.if-is_backing_at.true in
    let e : first t 0 a.h.count ≡ l.i = l.invariant.1 ∙ first-hit t l.i a.h.count (omega arith) found in
    rw (e, lt-ltb l.i a.h.count (omega arith)) c.backing_at.ensures

pub loop-i-preserved : goal.loop-i-preserved
loop-i-preserved c =
    let l = c.loop-i in
    let a = c.args in
    let t = backs_at a.f.now a.h a.a a.n in
    (omega arith, l.invariant.1 ∙ first_step t l.i a.h.count (omega arith) (rw (← c.is_backing_at.ensures) c.if-is_backing_at.false))

pub returns : goal.returns
unfolding backing_of backer
returns c =
    let l = c.loop-i in
    let a = c.args in
    let t = backs_at a.f.now a.h a.a a.n in
    let e : first t 0 a.h.count ≡ a.h.count = l.invariant.1 ∙ first_none t l.i a.h.count (omega arith) (omega arith) in
    rw (e, le-ltb a.h.count a.h.count (omega arith))
