-- The loop keeps that what is left to put gives the whole table put.
-- Assumes nothing.
use native.Mathlib.Omega.{arith}
use Rattle.writer.proofs.Laws.{left_now, left_next, left_done}
use Rattle.writer.proofs.Checked.write.Goals as goal

pub overflow_sub-address : goal.overflow_sub-address
overflow_sub-address c =
    let g = c.args.self.globals in
    let l = c.loop-i in
    (left_now g.addresses.now g.sizes.now c.args.buffer.now l.i l.end l.at l.buffer l.invariant (omega arith) g.equal).0.after

pub write_descriptor-at-requires : goal.write_descriptor-at-requires
write_descriptor-at-requires c =
    let g = c.args.self.globals in
    let l = c.loop-i in
    let w = left_now g.addresses.now g.sizes.now c.args.buffer.now l.i l.end l.at l.buffer l.invariant (omega arith) g.equal in
    let low = w.0.low in record {
      small = omega arith;
      fits = w.1;
    }

pub overflow_add-end : goal.overflow_add-end
overflow_add-end c =
    let g = c.args.self.globals in
    let l = c.loop-i in
    let w = left_now g.addresses.now g.sizes.now c.args.buffer.now l.i l.end l.at l.buffer l.invariant (omega arith) g.equal in
    let low = w.0.low in
    omega arith

pub loop-i-preserved : goal.loop-i-preserved
loop-i-preserved c =
    let g = c.args.self.globals in
    let l = c.loop-i in
    let w = c.write_descriptor-at in
    left_next g.addresses.now g.sizes.now c.args.buffer.now l.i l.end l.at l.buffer l.invariant (omega arith) g.equal w.result w.new.buffer
    w.ensures.moved w.ensures.written

pub returns : goal.returns
returns c =
    let g = c.args.self.globals in
    let l = c.loop-i in
    let w = left_done g.addresses.now g.sizes.now c.args.buffer.now l.i l.end l.at l.buffer l.invariant (omega arith) in
    record { counted = w.0; written = w.1 }
