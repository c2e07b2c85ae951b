-- Each test of the item is the rule's, on the fields that were read.
-- Assumes nothing.
use mathlib.Core.Path.{sym, ◌∙◌}
use Rattle.judging.proofs.Laws.{fault-barred, fault_misfit, relocates}
use Rattle.judging.proofs.Laws.{entry_skipped, entry_kept, target_read}
use Rattle.laws.proofs.Items.{entry_place, entry_addend}
use Rattle.judging.proofs.judge_entry.Goals as goal

pub returns-then-kind-eq0 : goal.returns-then-kind-eq0
returns-then-kind-eq0 c =
    let a = c.args in
    entry_skipped a.f.now a.m a.i c.requires.1 (sym c.kind_at-kind.ensures ∙ c.if-kind-eq0.true)

pub returns-then-is_barred : goal.returns-then-is_barred
returns-then-is_barred c =
    let a = c.args in
    let kept = entry_kept a.f.now a.m a.i c.requires.1 (λ z. c.if-kind-eq0.false (c.kind_at-kind.ensures ∙ z)) in
    let t = target_read a.f.now a.m a.i c.requires.1 _ _ _ c.kind_at-kind.ensures c.symbol_at-symbol.ensures c.find_target-t.ensures in
    fault-barred a.f.now a.m a.bias a.i kept (rw (← t) (sym c.if-is_barred.ensures))

pub returns-in_default : goal.returns-in_default
returns-in_default c =
    let a = c.args in
    let kept = entry_kept a.f.now a.m a.i c.requires.1 (λ z. c.if-kind-eq0.false (c.kind_at-kind.ensures ∙ z)) in
    let t = target_read a.f.now a.m a.i c.requires.1 _ _ _ c.kind_at-kind.ensures c.symbol_at-symbol.ensures c.find_target-t.ensures in
    fault_misfit a.f.now a.m a.bias a.i kept (rw (← t) (sym c.if-is_barred.ensures))
    (rw (entry_place a.f.now a.m a.i c.requires.1, ← c.place_at-place.ensures) c.in_default.ensures)

pub returns : goal.returns
returns c =
    let a = c.args in
    let kept = entry_kept a.f.now a.m a.i c.requires.1 (λ z. c.if-kind-eq0.false (c.kind_at-kind.ensures ∙ z)) in
    let t = target_read a.f.now a.m a.i c.requires.1 _ _ _ c.kind_at-kind.ensures c.symbol_at-symbol.ensures c.find_target-t.ensures in
    relocates a.f.now a.m a.bias a.i kept _ (rw (← t) (sym c.if-is_barred.ensures))
    (entry_place a.f.now a.m a.i c.requires.1 ∙ sym c.place_at-place.ensures) c.in-Some.ensures.1
    (c.is_outside-outside.ensures ∙ rw (t, c.addend_at-addend.ensures, ← entry_addend a.f.now a.m a.i c.requires.1)) c.in-Some.ensures.0
