-- The loop keeps that the items so far are told apart, that the map has their words, and that the run stands before the next.
-- Assumes nothing.
use mathlib.Core.Path.{refl, ◌∙◌}
use Rattle.apart.proofs.PackedLaws.{packing_start, packing_within, packing_next}
use Rattle.apart.proofs.spread_packed.Goals as goal

pub loop-i-init : goal.loop-i-init
loop-i-init c =
    let a = c.args in
    (refl, packing_start a.f.now a.m a.lo a.n a.map.now c.requires.3)

pub overflow_sub-run : goal.overflow_sub-run
overflow_sub-run c =
    let a = c.args in
    let l = c.loop-i in
    let within = rw (← l.invariant.0) at c.requires.1 in
    (packing_within a.f.now a.m a.lo a.n c.requires.0 l.map l.run l.i l.invariant.1 c.loop-i-test.true within _ c.next_place-run.ensures).0

pub meet_place-requires : goal.meet_place-requires
meet_place-requires c =
    let a = c.args in
    let l = c.loop-i in
    let within = rw (← l.invariant.0) at c.requires.1 in
    (packing_within a.f.now a.m a.lo a.n c.requires.0 l.map l.run l.i l.invariant.1 c.loop-i-test.true within _ c.next_place-run.ensures).1

pub loop-i-preserved : goal.loop-i-preserved
loop-i-preserved c =
    let a = c.args in
    let l = c.loop-i in
    let within = rw (← l.invariant.0) at c.requires.1 in (
      c.meet_place.auto.map ∙ l.invariant.0,
      packing_next a.f.now a.m a.lo a.n c.requires.0 l.map l.run l.i l.invariant.1 c.loop-i-test.true within
          _ c.next_place-run.ensures _ _ c.meet_place.ensures c.if-meet_place.false,
    )
