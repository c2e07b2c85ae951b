-- The two fields that tell are read; what is backed stands inside the file's limit, so the position fits.
-- Assumes nothing.
use native.Mathlib.Omega.{arith}
use Rattle.segments.proofs.Laws.{fields_inside, fields_backing}
use Rattle.segments.proofs.backing_at.Goals as goal

pub overflow_sub-result : goal.overflow_sub-result
overflow_sub-result c =
    let a = c.args in
    (fields_inside a.f.now a.h a.a a.n a.i _ _ c.read64-offset.ensures c.read64-vaddr.ensures c.requires).0

pub overflow_add-result : goal.overflow_add-result
overflow_add-result c =
    let a = c.args in
    let l = (fields_inside a.f.now a.h a.a a.n a.i _ _ c.read64-offset.ensures c.read64-vaddr.ensures c.requires).1 in
    omega (arith, l)

pub overflow_cast-result : goal.overflow_cast-result
overflow_cast-result c =
    let a = c.args in
    let l = (fields_inside a.f.now a.h a.a a.n a.i _ _ c.read64-offset.ensures c.read64-vaddr.ensures c.requires).1 in
    omega (arith, l)

pub returns : goal.returns
returns c =
    let a = c.args in
    fields_backing a.f.now a.h a.a a.n a.i _ _ c.read64-offset.ensures c.read64-vaddr.ensures
