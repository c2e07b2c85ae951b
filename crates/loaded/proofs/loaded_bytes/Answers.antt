-- The loop keeps that v is the number of the loaded bytes from k on.
-- Assumes nothing.
use native.Mathlib.Omega.{arith}
use Rattle.loaded.proofs.Laws.{reading_start, reading_room, reading_next}
use Rattle.loaded.proofs.loaded_bytes.Goals as goal

pub loop-k-init : goal.loop-k-init
loop-k-init c = let a = c.args in reading_start a.f.now a.h a.place

pub overflow_mul-v : goal.overflow_mul-v
overflow_mul-v c =
    let l = c.loop-k in
    let a = c.args in
    omega (arith, reading_room a.f.now a.h a.place l.v l.k 0 l.invariant (omega arith) (omega arith))

pub overflow_add-v : goal.overflow_add-v
overflow_add-v c =
    let l = c.loop-k in
    let a = c.args in
    let b = c.loaded_byte.result in
    omega (arith, reading_room a.f.now a.h a.place l.v l.k b l.invariant (omega arith) (omega arith))

pub loop-k-preserved : goal.loop-k-preserved
loop-k-preserved c =
    let l = c.loop-k in
    let a = c.args in
    let b = c.loaded_byte.result in
    reading_next a.f.now a.h a.place l.v l.k b l.invariant (omega arith) (omega arith) c.loaded_byte.ensures
