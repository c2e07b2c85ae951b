-- Two tags or more, no global, no tag, and one.
-- Assumes nothing.
use mathlib.Core.Path.{sym, ◌∙◌}
use native.Mathlib.Omega.{arith}
use borrow.Author.Tests.{eqb-true, eqb-false}
use Rattle.picker.proofs.Laws.{two_enough, none_needed, none_left, one_left}
use Rattle.picker.proofs.are_few.Goals as goal

pub returns-then-tags-gt1 : goal.returns-then-tags-gt1
returns-then-tags-gt1 c = sym (two_enough _ _ _ (omega arith))

pub returns-then-is_empty : goal.returns-then-is_empty
returns-then-is_empty c = sym (none_needed _ _ _ (eqb-true _ 0 (sym c.is_empty.ensures ∙ c.if-is_empty.true)))

pub returns-then-tags-eq0 : goal.returns-then-tags-eq0
returns-then-tags-eq0 c = sym (none_left _ _ _ c.if-tags-eq0.true (eqb-false _ 0 (sym c.is_empty.ensures ∙ c.if-is_empty.false)))

pub returns : goal.returns
returns c =
    c.some_abut.ensures ∙ one_left _ _ _ (omega arith) (eqb-false _ 0 (sym c.is_empty.ensures ∙ c.if-is_empty.false))
