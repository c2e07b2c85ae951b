-- The loop keeps the places ahead while words are read; then the bits below the lowest that is set are passed over.
-- Assumes nothing.
use mathlib.Core.Path.{refl}
use Rattle.std.proofs.Common.{arith}
use Rattle.places.proofs.Laws.{reading_start, reading_room, reading_even, reading_odd, next_start}
use Rattle.places.proofs.Laws.{skipped, passing_left, passing_found}
use Rattle.places.proofs.next_place.Goals as goal

pub loop-rest-init : goal.loop-rest-init
loop-rest-init c =
    let a = c.args in
    reading_start a.f.now a.t a.c c.requires.0 c.requires.1

pub overflow_add-words : goal.overflow_add-words
overflow_add-words c =
    let a = c.args in
    omega (arith, reading_room a.f.now a.t c.loop-rest.invariant c.loop-rest-test.true)

pub returns-then-w-eq0 : goal.returns-then-w-eq0
returns-then-w-eq0 c =
    let a = c.args in
    next_start a.f.now a.t a.c
    (reading_even a.f.now a.t c.loop-rest.invariant c.loop-rest-test.true c.word_at-w.ensures c.if-w-eq0.true refl)

pub loop-rest-smaller : goal.loop-rest-smaller
loop-rest-smaller c =
    let a = c.args in
    omega (arith, reading_room a.f.now a.t c.loop-rest.invariant c.loop-rest-test.true)

pub loop-rest-preserved : goal.loop-rest-preserved
loop-rest-preserved c =
    let a = c.args in
    reading_odd a.f.now a.t c.loop-rest.invariant c.loop-rest-test.true c.word_at-w.ensures (omega arith) c.if-w-eq0.false

pub overflow_sub-left : goal.overflow_sub-left
overflow_sub-left c =
    let a = c.args in
    let l = c.loop-rest in
    let all = skipped a.f.now a.t l.invariant c.loop-rest-test.false (omega arith) c.from-skipped.result c.from-skipped.ensures in
    omega (arith, passing_left all.0)

pub overflow_sub-result : goal.overflow_sub-result
overflow_sub-result c =
    let a = c.args in
    let l = c.loop-rest in
    let all = skipped a.f.now a.t l.invariant c.loop-rest-test.false (omega arith) c.from-skipped.result c.from-skipped.ensures in
    omega (arith, passing_left all.0)

pub returns : goal.returns
returns c =
    let a = c.args in
    let l = c.loop-rest in
    let all = skipped a.f.now a.t l.invariant c.loop-rest-test.false (omega arith) c.from-skipped.result c.from-skipped.ensures in
    next_start a.f.now a.t a.c (passing_found a.f.now a.t l.invariant c.loop-rest-test.false all.0 all.1)
