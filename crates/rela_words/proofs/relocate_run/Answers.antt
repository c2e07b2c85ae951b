-- The loop keeps the memory of the entries dealt with.
-- Assumes nothing.
use Rattle.std.proofs.Common.{sym, refl, ◌∙◌, arith}
use Rattle.rela_words.proofs.Laws.{entry_skipped, entry-written, relocated_none, relocated_next}
use Rattle.rela_words.proofs.relocate_run.Goals as goal

pub loop-i-init : goal.loop-i-init
loop-i-init c =
    let a = c.args in
    (omega arith, c.requires.1, sym (relocated_none a.f.now a.m a.bias a.plane.now a.mem.now a.from))

pub loop-i-preserved-then-kind-eq0 : goal.loop-i-preserved-then-kind-eq0
loop-i-preserved-then-kind-eq0 c =
    let l = c.loop-i in
    let a = c.args in (
      omega (arith, l.invariant.0),
      omega arith,
      sym (entry_skipped a.f.now a.m a.bias a.plane.now l.mem l.i _ (record { entry = omega arith; here = refl })
          (sym c.le32-kind.ensures ∙ c.if-kind-eq0.true))
          ∙ relocated_next a.f.now a.m a.bias a.plane.now a.mem.now l.mem a.from l.i l.invariant.0 l.invariant.2,
    )

pub loop-i-preserved : goal.loop-i-preserved
loop-i-preserved c =
    let l = c.loop-i in
    let a = c.args in
    let t = rw (c.le32-kind.ensures, c.le32-symbol.ensures) at (c.near_target-t.ensures a.m c.requires.2 (sym c.is_barred.ensures ∙ c.if-is_barred.false)) in (
      omega (arith, l.invariant.0),
      omega arith,
      c.write_word.ensures
          ∙ sym (entry-written a.f.now a.m a.bias a.plane.now l.mem l.i _ (record { entry = omega arith; here = refl })
          c.near_target-t.result (λ z. c.if-kind-eq0.false (c.le32-kind.ensures ∙ z)) (sym t))
          ∙ relocated_next a.f.now a.m a.bias a.plane.now a.mem.now l.mem a.from l.i l.invariant.0 l.invariant.2,
    )
