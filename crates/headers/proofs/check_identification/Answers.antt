-- The loop keeps that the first wrong byte is the first from here on.
-- Assumes nothing.
use mathlib.Core.Path.{◌≡◌, sym, ◌∙◌}
use mathlib.Core.Bool.{true, false}
use native.Mathlib.Omega.{arith}
use borrow.Author.Tests.{eq-eqb, ne_eqb}
use Rattle.rules.specs.Headers.{wrong_byte, identification_check}
use Rattle.rules.proofs.FirstLaws.{first_step, first-hit, first_none, faultless-hit, faultless_none}
use Rattle.headers.proofs.check_identification.Goals as goal

pub returns-then-byte_at-byte : goal.returns-then-byte_at-byte
unfolding identification_check wrong_byte
returns-then-byte_at-byte c =
    let l = c.loop-i in
    let t = wrong_byte c.args.f.now in
    let hit : t l.i ≡ true = rw (← c.byte_at.ensures, ne_eqb _ _ c.if-byte_at-byte.true) in
    rw c.at.ensures (sym (faultless-hit 2 t 7 l.i (l.invariant.1 ∙ first-hit t l.i 7 (omega arith) hit) (omega arith)))

pub loop-i-preserved : goal.loop-i-preserved
unfolding wrong_byte
loop-i-preserved c =
    let l = c.loop-i in
    let t = wrong_byte c.args.f.now in
    let same : t l.i ≡ false = rw (← c.byte_at.ensures, eq-eqb _ _ c.if-byte_at-byte.false) in
    (omega arith, l.invariant.1 ∙ first_step t l.i 7 (omega arith) same)

pub returns : goal.returns
unfolding identification_check
returns c =
    let l = c.loop-i in
    let t = wrong_byte c.args.f.now in
    sym (faultless_none 2 t 7 (l.invariant.1 ∙ first_none t l.i 7 (omega arith) (omega arith)))
