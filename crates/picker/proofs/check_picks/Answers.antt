-- The lists' lengths, the globals, and the tags that are left.
-- Assumes nothing.
use mathlib.Core.Path.{sym, ◌∙◌}
use Rattle.rules.proofs.ResultLaws.{passed_up_list}
use Rattle.picker.proofs.Calls.{unequal_sizes, unequal_random, unequal_choices, checks_global, checks_few, checks_pass}
use Rattle.picker.proofs.check_picks.Goals as goal
use Rattle.picker.proofs.check_picks.Goals.{then-sizes-globals-via-then-sizes-globals}
use Rattle.picker.proofs.check_picks.Goals.{then-sizes-globals-via-else-sizes-globals+then-random-globals}
use Rattle.picker.proofs.check_picks.Goals.{then-sizes-globals-via-else-sizes-globals+else-random-globals+then-room-globals}

pub returns-then-sizes-globals-clause-checked : goal.returns-then-sizes-globals-clause-checked
returns-then-sizes-globals-clause-checked c =
    let a = c.args in
    rw c.at.ensures (sym (elim c.then-sizes-globals.branch [
      | then-sizes-globals-via-then-sizes-globals w ↦
          unequal_sizes a.addresses.now a.sizes.now a.random.now a.excluded a.room w.if-sizes-globals.true
      | then-sizes-globals-via-else-sizes-globals+then-random-globals w ↦
          unequal_random a.addresses.now a.sizes.now a.random.now a.excluded a.room w.if-random-globals.true
      | then-sizes-globals-via-else-sizes-globals+else-random-globals+then-room-globals w ↦
          unequal_choices a.addresses.now a.sizes.now a.random.now a.excluded a.room w.if-room-globals.true
    ]))

pub returns-in_err-checked-clause-checked : goal.returns-in_err-checked-clause-checked
returns-in_err-checked-clause-checked c =
    let a = c.args in
    let up = passed_up_list c.from_residual.result c.in_err-checked.field-0.0 c.from_residual.ensures.1 in
    rw up (sym (checks_global a.addresses.now a.sizes.now a.random.now a.excluded a.room c.if-sizes-globals.false
    c.if-random-globals.false c.if-room-globals.false _ (sym c.in_err-checked.ensures.checked)))

pub returns-then-are_few-clause-checked : goal.returns-then-are_few-clause-checked
returns-then-are_few-clause-checked c =
    let a = c.args in
    let f = rw c.count_allowed.ensures at (sym c.are_few.ensures ∙ c.if-are_few.true) in
    rw c.at-then-are_few.ensures (sym (checks_few a.addresses.now a.sizes.now a.random.now a.excluded a.room c.if-sizes-globals.false
    c.if-random-globals.false c.if-room-globals.false (sym c.in_ok-checked.ensures.checked) (rw c.in_ok-checked.ensures.same at f)))

pub returns-clause-checked : goal.returns-clause-checked
returns-clause-checked c =
    let a = c.args in
    let f = rw c.count_allowed.ensures at (sym c.are_few.ensures ∙ c.if-are_few.false) in
    sym (checks_pass a.addresses.now a.sizes.now a.random.now a.excluded a.room c.if-sizes-globals.false
    c.if-random-globals.false c.if-room-globals.false (sym c.in_ok-checked.ensures.checked) (rw c.in_ok-checked.ensures.same at f))
