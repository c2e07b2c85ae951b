-- The loop keeps that the whole measure is the measure from here on.
-- Assumes nothing.
use mathlib.Core.Path.{sym, ◌∙◌}
use native.Mathlib.Omega.{arith}
use Rattle.writer.proofs.Laws.{judged_listed, counted_short, measured_end, measured_bad, measuring_next}
use Rattle.writer.proofs.Globals.measure.Goals as goal

pub returns-in-Err : goal.returns-in-Err
returns-in-Err c =
    let s = c.args.self in
    let l = c.loop-i in
    rw c.at.ensures (sym (l.invariant.rest ∙ measured_bad s.addresses.now s.sizes.now l.i l.end (omega arith) s.equal c.args.counted l.total
    c.judge.result c.in-Err.reason c.judge.ensures c.in-Err.is))

pub overflow_sub-address : goal.overflow_sub-address
overflow_sub-address c =
    (judged_listed c.args.self.addresses.now c.args.self.sizes.now c.loop-i.i c.loop-i.end c.judge.result c.judge.ensures c.in_default.is).after

pub counted_length-total-requires : goal.counted_length-total-requires
counted_length-total-requires c =
    let g = judged_listed c.args.self.addresses.now c.args.self.sizes.now c.loop-i.i c.loop-i.end c.judge.result c.judge.ensures c.in_default.is in
    let some = g.filled in
    let whole = g.whole_size in
    let low = g.low in record {
      filled = omega arith;
      small = omega arith;
    }

pub overflow_add-total : goal.overflow_add-total
overflow_add-total c =
    let l = c.loop-i in
    let g = judged_listed c.args.self.addresses.now c.args.self.sizes.now l.i l.end c.judge.result c.judge.ensures c.in_default.is in
    let w = counted_short l.end _ _ g c.args.counted _ c.counted_length-total.ensures in
    let low = g.low in
    let most = l.invariant.most in
    let after = g.after in
    omega arith

pub overflow_add-end : goal.overflow_add-end
overflow_add-end c =
    let g = judged_listed c.args.self.addresses.now c.args.self.sizes.now c.loop-i.i c.loop-i.end c.judge.result c.judge.ensures c.in_default.is in
    let low = g.low in
    omega arith

pub loop-i-preserved : goal.loop-i-preserved
loop-i-preserved c =
    let l = c.loop-i in
    measuring_next c.args.self.addresses.now c.args.self.sizes.now c.args.counted l.i l.end l.total _ c.judge.result l.invariant (omega arith)
    c.args.self.equal c.judge.ensures c.in_default.is c.counted_length-total.ensures

pub returns : goal.returns
returns c =
    let l = c.loop-i in
    sym (l.invariant.rest ∙ measured_end c.args.self.addresses.now c.args.self.sizes.now c.args.counted l.i l.end l.total (omega arith))
