-- Checks 12 to 14 in their order; a refusal is passed up.
-- Assumes nothing.
use Rattle.rules.proofs.ResultLaws.{passed_up}
use Rattle.checks.specs.Lent.{outside_check, lent_in}
use Rattle.checks.proofs.Laws.{module_count}
use Rattle.checks.proofs.check_lent.Goals as goal

pub returns-in_err-check_lending : goal.returns-in_err-check_lending
unfolding lent_in
returns-in_err-check_lending c =
    rw (passed_up c.from_residual.result c.in_err-check_lending.field-0.0 c.from_residual.ensures.1, ← c.in_err-check_lending.ensures)

pub returns-in-Some : goal.returns-in-Some
unfolding lent_in outside_check
returns-in-Some c = rw (← c.in_ok-check_lending.ensures, c.in-Some.is, c.at.ensures)

pub check_choices-requires : goal.check_choices-requires
check_choices-requires c = module_count c.args.f.now c.args.m c.requires

pub returns : goal.returns
unfolding lent_in outside_check
returns c = rw (← c.in_ok-check_lending.ensures, c.in_default.is) c.check_choices.ensures
