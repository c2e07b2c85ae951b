-- The reader, then the walk, in their order; a refusal is passed up.
-- Assumes nothing.
use mathlib.Core.Path.{sym}
use Rattle.rules.proofs.ResultLaws.{passed_up}
use Rattle.relocations.proofs.Laws.{walk_found}
use Rattle.examine.proofs.Laws.{module_ready, examined_unread, examined_refused, examined_taken}
use Rattle.examine.proofs.examine_file.Goals as goal

pub returns-in_default : goal.returns-in_default
returns-in_default c = sym (examined_unread c.args.f.now _ (sym (rw c.unwrap_err.ensures at c.read_module-read.ensures)))

pub check_relocations-requires : goal.check_relocations-requires
check_relocations-requires c = module_ready c.args.f.now c.in-Ok.m (sym c.in-Ok.ensures)

pub returns-in_err-walked : goal.returns-in_err-walked
returns-in_err-walked c =
    rw (passed_up c.from_residual.result c.in_err-walked.field-0.0 c.from_residual.ensures.1)
    (sym (examined_refused c.args.f.now c.in-Ok.m (sym c.in-Ok.ensures) 0 _ (sym c.in_err-walked.ensures)))

pub facts_of-requires : goal.facts_of-requires
facts_of-requires c = (walk_found c.args.f.now c.in-Ok.m 0 c.in_ok-walked.walked (sym c.in_ok-walked.ensures)).words

pub returns : goal.returns
returns c =
    rw c.facts_of.ensures
    (sym (examined_taken c.args.f.now c.in-Ok.m (sym c.in-Ok.ensures) 0 c.in_ok-walked.walked (sym c.in_ok-walked.ensures)))
