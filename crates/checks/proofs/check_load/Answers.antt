-- The walk of the items, then checks 12 to 14; a refusal is passed up.
-- Assumes nothing.
use mathlib.Core.Path.{sym}
use Rattle.rules.proofs.ResultLaws.{passed_up}
use Rattle.examine.proofs.Laws.{module_ready}
use Rattle.relocations.proofs.Laws.{walk_found}
use Rattle.checks.proofs.Laws.{check_stopped, check_refused, check_passed}
use Rattle.checks.proofs.check_load.Goals as goal

pub check_relocations-requires : goal.check_relocations-requires
check_relocations-requires c = module_ready c.args.f.now c.args.m c.requires

pub returns-in_err-walked : goal.returns-in_err-walked
returns-in_err-walked c =
    let a = c.args in
    rw (passed_up c.from_residual.result c.in_err-walked.field-0.0 c.from_residual.ensures.1)
    (sym (check_stopped a.f.now a.m a.bias a.memory a.plane a.choices.now _ (sym c.in_err-walked.ensures)))

pub returns-in_err-check_lent : goal.returns-in_err-check_lent
returns-in_err-check_lent c =
    let a = c.args in
    rw (passed_up c.from_residual-in_err-check_lent.result c.in_err-check_lent.field-0.0 c.from_residual-in_err-check_lent.ensures.1)
    (sym (check_refused a.f.now a.m a.bias a.memory a.plane a.choices.now c.in_ok-walked.walked (sym c.in_ok-walked.ensures) _
    (sym c.in_err-check_lent.ensures)))

pub facts_of-requires : goal.facts_of-requires
facts_of-requires c = (walk_found c.args.f.now c.args.m c.args.bias c.in_ok-walked.walked (sym c.in_ok-walked.ensures)).words

pub returns : goal.returns
returns c =
    let a = c.args in
    rw c.facts_of.ensures
    (sym (check_passed a.f.now a.m a.bias a.memory a.plane a.choices.now c.in_ok-walked.walked (sym c.in_ok-walked.ensures)
    (sym c.in_ok-check_lent.ensures)))
