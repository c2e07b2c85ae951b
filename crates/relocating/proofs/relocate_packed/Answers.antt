-- The loop keeps the memory of the places seen, and where reading them stands.
-- Assumes nothing.
use Rattle.std.proofs.Common.{◌+◌, sym, refl, ◌∙◌, add-one, arith}
use Rattle.places.proofs.ItemLaws.{reached_start, reached_here, reached_next}
use Rattle.rela_words.specs.Words.{relocated_from}
use Rattle.relocating.proofs.WriteLaws.{packed-written}
use Rattle.relocating.proofs.relocate_packed.Goals as goal

pub loop-init : goal.loop-init
unfolding relocated_from
loop-init c =
    let a = c.args in
    (omega arith, reached_start a.f.now a.m, refl)

pub loop-preserved : goal.loop-preserved
unfolding relocated_from
loop-preserved c =
    let a = c.args in
    let l = c.loop in
    let e = a.m.relocations.entries in
    let here = reached_here a.f.now a.m l.run c.next_place-run.result l.counter l.invariant.1 c.next_place-run.ensures (e + l.counter) refl in
    let place = here.place (omega arith) in
    let low = c.requires.low (e + l.counter) (omega arith) (omega arith) in (
      omega arith,
      reached_next a.f.now a.m l.run c.next_place-run.result l.counter l.invariant.1 c.next_place-run.ensures (omega arith),
      c.write_packed.ensures
          ∙ sym (rw add-one (rw (← l.invariant.2) (packed-written a.f.now a.m a.bias a.plane.now l.mem (e + l.counter)
          c.next_place-run.result.place (omega arith) place))),
    )
