-- The loop keeps that the first entry with the tag is the first from here on.
-- Assumes nothing.
use Rattle.rules.specs.Dynamic.{has_tag_at, tag_before}
use native.Mathlib.Nat.{sub-zero}
use Rattle.rules.proofs.FirstLaws.{first_step, first-hit, first_none}
use mathlib.Core.Path.{◌≡◌, ◌∙◌}
use native.Mathlib.Omega.{arith}
use borrow.Author.Tests.{eq-eqb, ne_eqb}
use Rattle.rules.proofs.OptionLaws.{search-hit, search-miss}
use Rattle.entries.proofs.find_tag.Goals as goal

pub loop-i-init : goal.loop-i-init
loop-i-init c = (omega arith, rw sub-zero)

pub returns-then-tag_at-tag : goal.returns-then-tag_at-tag
unfolding tag_before has_tag_at
returns-then-tag_at-tag c =
    let l = c.loop-i in
    let a = c.args in
    let t = has_tag_at a.f.now a.d a.tag in
    let e : tag_before a.f.now a.d a.tag a.n ≡ l.i =
    l.invariant.1 ∙ first-hit t l.i a.n (omega arith) (rw (← c.tag_at.ensures) (eq-eqb _ _ c.if-tag_at-tag.true)) in
    search-hit _ l.i a.n e (omega arith)

pub loop-i-preserved : goal.loop-i-preserved
unfolding has_tag_at
loop-i-preserved c =
    let l = c.loop-i in
    let a = c.args in
    let t = has_tag_at a.f.now a.d a.tag in
    (omega arith, l.invariant.1 ∙ first_step t l.i a.n (omega arith) (rw (← c.tag_at.ensures) (ne_eqb _ _ c.if-tag_at-tag.false)))

pub returns : goal.returns
unfolding tag_before
returns c =
    let l = c.loop-i in
    let a = c.args in
    let t = has_tag_at a.f.now a.d a.tag in
    let e : tag_before a.f.now a.d a.tag a.n ≡ a.n = l.invariant.1 ∙ first_none t l.i a.n (omega arith) (omega arith) in
    search-miss _ a.n e
