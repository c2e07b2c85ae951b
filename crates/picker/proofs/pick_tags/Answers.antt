-- The checks; and then the choices are filled.
-- Assumes nothing.
use mathlib.Core.Path.{refl}
use lib.ListN.{length}
use Rattle.rules.proofs.ResultLaws.{passed_up_list}
use Rattle.picker.proofs.Calls.{checks_passed, call_refused, call_taken}
use Rattle.picker.proofs.pick_tags.Goals as goal

pub returns-in_err-checked : goal.returns-in_err-checked
returns-in_err-checked c =
    let a = c.args in
    let up = passed_up_list c.from_residual.result c.in_err-checked.field-0.0 c.from_residual.ensures.1 in
    rw up (call_refused a.addresses.now a.sizes.now a.random.now a.excluded a.choices.now _ _ _ refl c.in_err-checked.ensures.checked refl)

pub fill_choices-requires : goal.fill_choices-requires
fill_choices-requires c =
    let a = c.args in
    let p = checks_passed a.addresses.now a.sizes.now a.random.now a.excluded (length a.choices.now) _ c.in_ok-checked.ensures.checked refl in
    let e = c.in_ok-checked.ensures.same in record {
      drawn = rw e.0 p.random_long;
      lent = rw e.0 p.choices_long;
      enough = rw (e.0, e.1) p.enough;
    }

pub returns : goal.returns
returns c =
    let a = c.args in
    call_taken a.addresses.now a.sizes.now a.random.now a.excluded a.choices.now _ _ _ c.in_ok-checked.ensures.checked
    refl refl (rw (c.in_ok-checked.ensures.same.0, c.in_ok-checked.ensures.same.1) at c.fill_choices.ensures)
