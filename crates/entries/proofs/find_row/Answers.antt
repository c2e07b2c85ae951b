-- The loop keeps that the first row with the tag is the first from here on.
-- Assumes nothing.
use Rattle.rules.specs.Dynamic.{is_row, row_of, known_tags}
use Rattle.rules.proofs.FirstLaws.{first_step, first-hit, first_none}
use mathlib.Core.Path.{◌≡◌, ◌∙◌}
use native.Mathlib.Omega.{arith}
use borrow.Author.Tests.{eq-eqb, ne_eqb, lt-ltb}
use Rattle.entries.proofs.find_row.Goals as goal

pub returns-then-row-tag : goal.returns-then-row-tag
unfolding row_of is_row
returns-then-row-tag c =
    let r = c.loop-row.row-index in
    let t = is_row known_tags c.args.tag in
    let e : row_of known_tags c.args.tag ≡ r = c.loop-row.invariant ∙ first-hit t r 15 (omega arith) (eq-eqb _ _ c.if-row-tag.true) in
    rw (e, lt-ltb r 15 (omega arith))

pub loop-row-preserved : goal.loop-row-preserved
unfolding is_row
loop-row-preserved c =
    let r = c.loop-row.row-index in
    let t = is_row known_tags c.args.tag in
    c.loop-row.invariant ∙ first_step t r 15 (omega arith) (ne_eqb _ _ c.if-row-tag.false)

pub returns : goal.returns
unfolding row_of
returns c =
    let r = c.loop-row.row-index in
    let t = is_row known_tags c.args.tag in
    let e : row_of known_tags c.args.tag ≡ 15 = c.loop-row.invariant ∙ first_none t r 15 (omega arith) (omega arith) in
    rw e
