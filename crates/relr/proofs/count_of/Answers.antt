-- By the word's lowest bit, and whether it is the only one.
-- Assumes nothing.
use mathlib.Core.Path.{sym}
use native.Mathlib.Omega.{arith}
use borrow.Author.Tests.{eq-eqb, ne_eqb}
use Rattle.relr.specs.Count.{count_of}
use Rattle.relr.proofs.Laws.{ones_odd, empty_bitmap}
use Rattle.relr.proofs.count_of.Goals as goal

pub returns-then-w-eq0 : goal.returns-then-w-eq0
unfolding count_of
returns-then-w-eq0 c = rw (eq-eqb _ 0 c.if-w-eq0.true)

pub returns-then-w-eq1 : goal.returns-then-w-eq1
returns-then-w-eq1 c = rw c.if-w-eq1.true (sym empty_bitmap)

pub overflow_sub-result : goal.overflow_sub-result
overflow_sub-result c = omega (arith, ones_odd c.args.w c.if-w-eq0.false (omega arith))

pub returns : goal.returns
unfolding count_of
returns c = rw (ne_eqb _ 0 c.if-w-eq0.false)
