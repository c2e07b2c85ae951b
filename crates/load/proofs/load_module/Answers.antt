-- Reading, then the checks, then the writes; a refusal comes before any write.
-- Assumes nothing.
use mathlib.Core.Path.{sym}
use Rattle.rules.proofs.ResultLaws.{passed_up}
use Rattle.demands.specs.Calls.{buffers}
use Rattle.load.proofs.Laws.{call_unread, call_unfit, call_placed, call_taken}
use Rattle.load.proofs.load_module.Goals as goal

pub returns-in_default : goal.returns-in_default
returns-in_default c =
    let a = c.args in
    call_unread a.f.now a.bias a.choices.now (buffers a.memory.now a.plane.now) _ (sym (rw c.unwrap_err.ensures at c.read_module-read.ensures))

pub check_load-requires : goal.check_load-requires
check_load-requires c = sym c.in-Ok.ensures

pub returns-in_err-facts : goal.returns-in_err-facts
returns-in_err-facts c =
    let a = c.args in
    rw (passed_up c.from_residual.result c.in_err-facts.field-0.0 c.from_residual.ensures.1)
    (call_unfit a.f.now a.bias a.choices.now (buffers a.memory.now a.plane.now) c.in-Ok.m (sym c.in-Ok.ensures) _ (sym c.in_err-facts.ensures))

pub write_load-requires : goal.write_load-requires
write_load-requires c =
    let a = c.args in
    call_placed a.f.now a.bias a.choices.now (buffers a.memory.now a.plane.now) c.in-Ok.m (sym c.in-Ok.ensures) c.in_ok-facts.facts
    (sym c.in_ok-facts.ensures)

pub returns : goal.returns
returns c =
    let a = c.args in
    call_taken a.f.now a.bias a.choices.now (buffers a.memory.now a.plane.now) c.in-Ok.m (sym c.in-Ok.ensures) c.in_ok-facts.facts
    (buffers _ _) (sym c.in_ok-facts.ensures) c.write_load.ensures.placed c.write_load.ensures.tagged
