-- The loop keeps the memory of the entries dealt with, each word worked out from memory as it stands.
-- Assumes nothing.
use Rattle.std.proofs.Common.{refl, ◌∙◌, zero-add, add-one, arith}
use Rattle.rela_words.specs.Words.{relocated_from}
use Rattle.rela_words.proofs.Laws.{relocated_onward}
use Rattle.rela_words.proofs.relocate_entries.Goals as goal

pub loop-i-init : goal.loop-i-init
unfolding relocated_from
loop-i-init c = (omega arith, refl)

pub loop-i-preserved-then-i-n : goal.loop-i-preserved-then-i-n
unfolding relocated_from
loop-i-preserved-then-i-n c =
    let l = c.loop-i in
    let a = c.args in
    let v = c.relocate_run-i.result in
    let onward = relocated_onward a.f.now a.m a.bias a.plane.now a.mem.now l.mem l.i v c.relocate_run-i.ensures.onward.0 l.invariant.1 in
    let kept = c.relocate_run-i.ensures.written ∙ onward in
    let write = c.relocate_entry.ensures a.m v (record { entry = c.if-i-n.true; here = refl }) refl refl in
    (omega (arith, c.if-i-n.true), rw (add-one, zero-add, ← kept) write)

pub loop-i-preserved : goal.loop-i-preserved
loop-i-preserved c =
    let l = c.loop-i in
    let a = c.args in
    let v = c.relocate_run-i.result in
    let onward = relocated_onward a.f.now a.m a.bias a.plane.now a.mem.now l.mem l.i v c.relocate_run-i.ensures.onward.0 l.invariant.1 in
    (c.relocate_run-i.ensures.onward.1, c.relocate_run-i.ensures.written ∙ onward)
