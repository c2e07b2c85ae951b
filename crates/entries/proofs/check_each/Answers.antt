-- The loop keeps that the first bad entry is the first from here on.
-- Assumes nothing.
use Rattle.rules.specs.Dynamic.{bad_entry, known_tags}
use Rattle.rules.proofs.FirstLaws.{first_step, first-hit, first_none, faultless-hit, faultless_none}
use native.Mathlib.Nat.{sub-zero}
use mathlib.Core.Path.{sym, ◌∙◌}
use native.Mathlib.Omega.{arith}
use Rattle.entries.proofs.check_each.Goals as goal

pub loop-i-init : goal.loop-i-init
loop-i-init c = (omega arith, rw sub-zero)

pub returns-then-is_bad_entry : goal.returns-then-is_bad_entry
returns-then-is_bad_entry c =
    let l = c.loop-i in
    let a = c.args in
    let t = bad_entry known_tags a.f.now a.d in
    rw c.at.ensures (sym (faultless-hit 6 t a.d.entries l.i (l.invariant.1 ∙ first-hit t l.i a.d.entries (omega arith)
    (rw (← c.is_bad_entry.ensures) c.if-is_bad_entry.true)) (omega arith)))

pub loop-i-preserved : goal.loop-i-preserved
loop-i-preserved c =
    let l = c.loop-i in
    let a = c.args in
    let t = bad_entry known_tags a.f.now a.d in
    (omega arith, l.invariant.1 ∙ first_step t l.i a.d.entries (omega arith) (rw (← c.is_bad_entry.ensures) c.if-is_bad_entry.false))

pub returns : goal.returns
returns c =
    let l = c.loop-i in
    let a = c.args in
    let t = bad_entry known_tags a.f.now a.d in
    sym (faultless_none 6 t a.d.entries (l.invariant.1 ∙ first_none t l.i a.d.entries (omega arith) (omega arith)))
