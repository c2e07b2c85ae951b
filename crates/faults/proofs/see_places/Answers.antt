-- The loop keeps what is seen of the items so far, the PT_LOAD and the file part found last, and where reading packed places stands.
-- Assumes nothing.
use Rattle.std.specs.Prelude.{None}
use Prim.Native.Nat.{ℕ, ◌-◌}
use mathlib.Core.Path.{◌≡◌, refl, sym, subst}
use mathlib.Core.Bool.{true}
use native.Mathlib.Omega.{arith}
use Rattle.rules.specs.Relocations.{items}
use Rattle.places.proofs.ItemLaws.{reached_start, reached_more, come_next}
use Rattle.segments.proofs.SpanLaws.{sound_none}
use Rattle.parts.proofs.Laws.{parted_none}
use Rattle.tallies.proofs.Laws.{words_room}
use Rattle.entry_faults.proofs.Laws.{seeing_start, seeing_clear, seeing_word, seen_fault, seen_end}
use Rattle.faults.proofs.Laws.{clear_packed, reached_on, judged_fits, parted_or}
use Rattle.entry_faults.specs.Seen.{SeesFrom}
use Rattle.faults.proofs.see_places.Goals as goal
use Rattle.faults.proofs.see_places.Goals.{then-is_clear_place, else-is_clear_place+in-Ok}

pub overflow_add-n : goal.overflow_add-n
overflow_add-n c = omega (arith, c.requires.0.few)

pub loop-i-init : goal.loop-i-init
loop-i-init c =
    let a = c.args in
    let k = a.m.relocations.entries in
    let z : k - k ≡ 0 = omega arith in (
      seeing_start a.f.now a.m c.requires.0 a.bias k (items a.m) a.entries (omega arith) c.requires.1,
      sound_none a.f.now a.m.headers true (record { start = 0; size = 0 }) refl,
      parted_none a.f.now a.m.headers true,
      rw z (reached_start a.f.now a.m),
    )

pub next_place-run-requires : goal.next_place-run-requires
next_place-run-requires c =
    let a = c.args in
    let up = c.loop-i.invariant.0.above in
    let r = c.loop-i.invariant.3 in
    (r.standing, reached_more a.f.now a.m c.loop-i.run c.loop-i.run _ r c.requires.0.counted (omega (arith, c.loop-i-test.true)))

pub packed_position-position-requires : goal.packed_position-position-requires
packed_position-position-requires c =
    let a = c.args in
    let up = c.loop-i.invariant.0.above in
    ((come_next a.f.now a.m c.loop-i.run c.next_place-run.result c.loop-i.i up c.loop-i.invariant.3 c.next_place-run.ensures).here, up)

pub is_clear_place-requires : goal.is_clear_place-requires
is_clear_place-requires c =
    (c.requires.0.loads, c.loop-i.invariant.2)

pub tally_clear-t-requires : goal.tally_clear-t-requires
tally_clear-t-requires c =
    let a = c.args in
    let room = words_room a.f.now a.m a.bias c.loop-i.i c.loop-i.t c.loop-i.invariant.0.tallied in
    let few = c.requires.0.few in
    let up = c.loop-i.invariant.0.below in
    (omega arith, c.loop-i.invariant.0.tallied.some)

pub judge_packed-requires : goal.judge_packed-requires
judge_packed-requires c =
    (c.loop-i.invariant.1, c.requires.0.loads)

pub find_part-requires : goal.find_part-requires
find_part-requires c = (omega arith, c.requires.0.loads)

pub tally_word-t-requires : goal.tally_word-t-requires
tally_word-t-requires c =
    let a = c.args in
    let room = words_room a.f.now a.m a.bias c.loop-i.i c.loop-i.t c.loop-i.invariant.0.tallied in
    let few = c.requires.0.few in
    let up = c.loop-i.invariant.0.below in
    omega arith

pub returns-in-Err : goal.returns-in-Err
returns-in-Err c =
    let a = c.args in
    let l = c.loop-i in
    let up = l.invariant.0.above in
    let here = (come_next a.f.now a.m l.run c.next_place-run.result l.i up l.invariant.3 c.next_place-run.ensures).here in
    rw c.at.ensures (seen_fault a.f.now a.m c.requires.0 a.bias a.m.relocations.entries (items a.m) l.t l.i l.invariant.0 c.loop-i-test.true
    c.in-Err.reason (c.in-Err.ensures l.i up (here.place up)) c.packed_position-position.result c.packed_position-position.ensures.reported)

pub loop-i-preserved : goal.loop-i-preserved
loop-i-preserved c =
    let a = c.args in
    let k = a.m.relocations.entries in
    let l = c.loop-i in
    let up = l.invariant.0.above in
    let come = come_next a.f.now a.m l.run c.next_place-run.result l.i up l.invariant.3 c.next_place-run.ensures in
    elim c.if-is_clear_place.branch [
      | then-is_clear_place w ↦
          let q = clear_packed a.f.now a.m c.requires.0 l.i up a.bias _ (come.here.place up) (c.is_clear_place.ensures w.if-is_clear_place.true) in (
            rw w.t-is
                (seeing_clear a.f.now a.m c.requires.0 a.bias k (items a.m) l.t l.i l.invariant.0 c.loop-i-test.true q _
                c.packed_position-position.result _ (sym (come.here.place up)) c.packed_position-position.ensures.reported
                (w.tally_clear-t.ensures c.packed_position-position.result)),
            rw w.span-is l.invariant.1,
            rw w.part-is l.invariant.2,
            reached_on a.f.now a.m c.requires.0 l.i up _ come q.fits,
          )
      | else-is_clear_place+in-Ok w ↦
          let word = w.in-Ok.ensures l.i up (come.here.place up) in (
            rw w.t-is
                (seeing_word a.f.now a.m c.requires.0 a.bias k (items a.m) l.t l.i l.invariant.0 c.loop-i-test.true w.in-Ok.word word
                c.packed_position-position.result c.packed_position-position.ensures.reported w.tally_word-t.result w.tally_word-t.ensures),
            rw w.span-is word.sound,
            rw (w.part-is, w.unwrap_or-part.ensures) (parted_or a.f.now a.m.headers _ 8 w.find_part.result w.find_part.ensures),
            reached_on a.f.now a.m c.requires.0 l.i up _ come (judged_fits a.f.now a.m c.requires.0 l.i up a.bias w.in-Ok.word word),
          )
    ]

pub returns : goal.returns
returns c =
    let a = c.args in
    let l = c.loop-i in
    let e : l.i ≡ items a.m = omega (arith, l.invariant.0.below, c.loop-i-test.false) in
    let s = seen_end a.f.now a.m c.requires.0 a.bias a.m.relocations.entries (items a.m) l.t l.i l.invariant.0 c.loop-i-test.false in
    subst (λ (x : ℕ). SeesFrom a.f.now a.m a.bias a.m.relocations.entries (record { item = x; fault = None; tally = l.t })) e s
