-- The loop keeps that no item so far repeats, that the map has their places, and that the run stands before the next.
-- Assumes nothing.
use mathlib.Core.Path.{refl, ◌∙◌}
use native.Mathlib.Omega.{arith}
use Rattle.repeats.proofs.WindowLaws.{packing_start, packing_next, packing_hit}
use Rattle.repeats.proofs.meet_packed.Goals as goal

pub loop-i-init : goal.loop-i-init
loop-i-init c =
    let a = c.args in
    (refl, packing_start a.f.now a.m a.lo a.size a.n a.map.now c.requires.2)

pub returns-then-meet_in : goal.returns-then-meet_in
returns-then-meet_in c =
    let a = c.args in
    let l = c.loop-i in
    packing_hit a.f.now a.m a.lo a.size a.n c.requires.1 l.map l.run l.i l.invariant.1 c.loop-i-test.true
    _ c.next_place-run.ensures _ _ c.meet_in.ensures c.if-meet_in.true

pub loop-i-preserved : goal.loop-i-preserved
loop-i-preserved c =
    let a = c.args in
    let l = c.loop-i in (
      c.meet_in.auto.map ∙ l.invariant.0,
      packing_next a.f.now a.m a.lo a.size a.n c.requires.1 l.map l.run l.i l.invariant.1 c.loop-i-test.true
          _ c.next_place-run.ensures _ _ c.meet_in.ensures (omega arith) c.if-meet_in.false,
    )
