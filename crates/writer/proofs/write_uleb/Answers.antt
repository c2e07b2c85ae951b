-- The loop keeps that what is left to put gives the whole number put.
-- Assumes nothing.
use mathlib.Core.Path.{sym, ◌∙◌}
use native.Mathlib.Omega.{arith}
use lib.ListN.{length-set}
use Rattle.writer.proofs.Laws.{length_last, length_more, put_last, put_more}
use Rattle.writer.proofs.write_uleb.Goals as goal

pub bounds-buffer-at : goal.bounds-buffer-at
bounds-buffer-at c =
    let l = c.loop-v in
    let m = length_more l.v (omega arith) l.invariant.0 in
    let e = l.invariant.1.0 in
    let s = l.invariant.1.1.0 in
    omega arith

pub loop-v-preserved : goal.loop-v-preserved
loop-v-preserved c =
    let l = c.loop-v in
    let b = l.invariant.0 in
    let m = length_more l.v (omega arith) b in
    let e = l.invariant.1.0 in
    (omega arith, (omega arith, (rw length-set l.invariant.1.1.0, sym (put_more l.buffer l.at l.v (omega arith) b) ∙ l.invariant.1.1.1)))

pub bounds-buffer-at-2 : goal.bounds-buffer-at-2
bounds-buffer-at-2 c =
    let l = c.loop-v in
    let m = length_last l.v (omega arith) in
    let e = l.invariant.1.0 in
    let s = l.invariant.1.1.0 in
    omega arith

pub returns : goal.returns
returns c =
    let l = c.loop-v in
    let m = length_last l.v (omega arith) in
    let e = l.invariant.1.0 in record {
      moved = omega arith;
      written = sym (put_last l.buffer l.at l.v (omega arith)) ∙ l.invariant.1.1.1;
    }
