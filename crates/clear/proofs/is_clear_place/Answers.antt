-- The file part found last covers the place, so its bytes are loaded from there.
-- Assumes nothing.
use Rattle.std.proofs.Common.{sym, arith}
use Rattle.clear.proofs.Laws.{part_inside, place_clear}
use Rattle.clear.proofs.is_clear_place.Goals as goal

pub overflow_sub-place : goal.overflow_sub-place
overflow_sub-place c =
    let a = c.args in
    let w = part_inside a.f.now a.h a.place a.last c.requires.1 (sym c.if-not-fits.ensures) in
    w.0

pub overflow_add-last : goal.overflow_add-last
overflow_add-last c =
    let a = c.args in
    let w = part_inside a.f.now a.h a.place a.last c.requires.1 (sym c.if-not-fits.ensures) in
    omega arith

pub le64-loaded-requires : goal.le64-loaded-requires
le64-loaded-requires c =
    let a = c.args in
    let w = part_inside a.f.now a.h a.place a.last c.requires.1 (sym c.if-not-fits.ensures) in
    w.1

pub returns : goal.returns
returns c e =
    let a = c.args in
    place_clear a.f.now a.h a.place a.last c.requires.1 (sym c.if-not-fits.ensures) a.bias
    c.le64-loaded.result c.requires.0 c.le64-loaded.ensures (c.is_value_inside.ensures e)
