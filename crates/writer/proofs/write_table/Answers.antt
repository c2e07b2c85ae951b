-- The lists' lengths, what was measured, the buffer's length; and then the table is written.
-- Assumes nothing.
use mathlib.Core.Path.{sym, ◌∙◌, ap, refl}
use mathlib.Core.Bool.{not}
use native.Mathlib.Omega.{arith}
use Rattle.rules.specs.Outcome.{good}
use Rattle.rules.specs.Answers.{of_list_result}
use Rattle.rules.proofs.ResultLaws.{passed_up_list}
use Rattle.writer.proofs.Calls.{call_unequal, call_measured, call_small, call_taken, ample, measured_good, measured_much, measured_fits}
use Rattle.writer.proofs.write_table.Goals as goal

pub returns-then-addresses-sizes : goal.returns-then-addresses-sizes
returns-then-addresses-sizes c =
    let a = c.args in
    rw c.at.ensures (call_unequal a.addresses.now a.sizes.now a.buffer.now _ c.if-addresses-sizes.true refl)

pub returns-in_err-needed : goal.returns-in_err-needed
returns-in_err-needed c =
    let a = c.args in
    let up = passed_up_list c.from_residual.result c.in_err-needed.field-0.0 c.from_residual.ensures.1 in
    rw up (call_measured a.addresses.now a.sizes.now a.buffer.now c.if-addresses-sizes.false (not (ample a.addresses.now a.buffer.now)) _ _ refl
    (ap of_list_result (sym c.in_err-needed.was) ∙ c.measure.ensures))

pub returns-then-buffer-needed : goal.returns-then-buffer-needed
returns-then-buffer-needed c =
    let a = c.args in
    let m = measured_good a.addresses.now a.sizes.now (not (ample a.addresses.now a.buffer.now)) c.in_ok-needed.needed
    (sym c.measure.ensures ∙ ap of_list_result c.in_ok-needed.was) in
    let s = measured_much a.addresses.now a.sizes.now a.buffer.now c.in_ok-needed.needed m.1 (omega arith) in
    rw c.at-then-buffer-needed.ensures (call_small a.addresses.now a.sizes.now a.buffer.now c.if-addresses-sizes.false _ m.0 s refl)

pub write-requires : goal.write-requires
write-requires c =
    let a = c.args in
    let m = measured_good a.addresses.now a.sizes.now (not (ample a.addresses.now a.buffer.now)) c.in_ok-needed.needed
    (sym c.measure.ensures ∙ ap of_list_result c.in_ok-needed.was) in
    measured_fits a.addresses.now a.sizes.now a.buffer.now c.in_ok-needed.needed m.1 c.if-addresses-sizes.false m.0 (omega arith)

pub returns : goal.returns
returns c =
    let a = c.args in
    let m = measured_good a.addresses.now a.sizes.now (not (ample a.addresses.now a.buffer.now)) c.in_ok-needed.needed
    (sym c.measure.ensures ∙ ap of_list_result c.in_ok-needed.was) in
    let f = measured_fits a.addresses.now a.sizes.now a.buffer.now c.in_ok-needed.needed m.1 c.if-addresses-sizes.false m.0 (omega arith) in
    call_taken a.addresses.now a.sizes.now a.buffer.now c.if-addresses-sizes.false _ _ m.0 f (ap good c.write.ensures.counted)
    c.write.ensures.written
