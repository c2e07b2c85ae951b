-- The loop keeps what is seen of the entries so far, and the PT_LOAD found last.
-- Assumes nothing.
use mathlib.Core.Path.{refl, sym}
use mathlib.Core.Bool.{true}
use native.Mathlib.Omega.{arith}
use Rattle.laws.proofs.Items.{entry_position}
use Rattle.segments.proofs.SpanLaws.{sound_none}
use Rattle.tallies.proofs.Laws.{tallied_none, words_room}
use Rattle.entry_faults.proofs.Laws.{seeing_start, seeing_judged, seen_fault, seen_end}
use Rattle.entry_faults.proofs.see_entries.Goals as goal

pub loop-i-init : goal.loop-i-init
loop-i-init c =
    let a = c.args in
    let t = tallied_none a.f.now a.m a.bias _ refl refl refl refl in (
      seeing_start a.f.now a.m c.requires a.bias 0 a.m.relocations.entries _ (omega arith) t,
      sound_none a.f.now a.m.headers true (record { start = 0; size = 0 }) refl,
    )

pub seen_after-requires : goal.seen_after-requires
seen_after-requires c =
    let a = c.args in
    let p = c.pass_entries-p.result in
    let room = words_room a.f.now a.m a.bias p.item p.tally c.pass_entries-p.ensures.seen.tallied in
    let few = c.requires.few in
    omega (arith, c.if-i-n.true)

pub returns-in-Err : goal.returns-in-Err
returns-in-Err c =
    let a = c.args in
    let p = c.pass_entries-p.result in
    let here = sym (entry_position a.f.now a.m p.item c.if-i-n.true) in
    rw c.at.ensures (seen_fault a.f.now a.m c.requires a.bias 0 a.m.relocations.entries p.tally p.item c.pass_entries-p.ensures.seen
    c.if-i-n.true c.in-Err.reason c.in-Err.ensures p.item here)

pub loop-i-preserved-then-i-n : goal.loop-i-preserved-then-i-n
loop-i-preserved-then-i-n c =
    let a = c.args in
    let p = c.pass_entries-p.result in
    let here = sym (entry_position a.f.now a.m p.item c.if-i-n.true) in
    seeing_judged a.f.now a.m c.requires a.bias 0 a.m.relocations.entries p.tally p.item c.pass_entries-p.ensures.seen c.if-i-n.true
    c.in-Ok.word c.in-Ok.ensures p.item here c.seen_after.result.0 c.loop-i.span c.seen_after.result.1 c.loop-i.invariant.1
    c.seen_after.ensures.kept c.seen_after.ensures.skipped

pub returns : goal.returns
returns c =
    let a = c.args in
    seen_end a.f.now a.m c.requires a.bias 0 a.m.relocations.entries c.loop-i.t c.loop-i.i c.loop-i.invariant.0 c.loop-i-test.false
