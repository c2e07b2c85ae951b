-- The cursor walks the module's globals; so each step reads the global of its index.
-- Assumes nothing.
use Rattle.printing.proofs.Laws.{module_walk, walk_reads, walk_read}
use native.Mathlib.Omega.{arith}
use Rattle.std.proofs.Common.{◌≡◌, ℕ}
use Rattle.printing.proofs.print_globals.Goals as goal

pub loop-i-init : goal.loop-i-init
loop-i-init g c = module_walk c.args.f.now c.args.m _ c.requires c.part_of-table.ensures

pub returns-in_default : goal.returns-in_default
returns-in_default g c =
    let n = c.loop-i.invariant.1 in
    let r = walk_reads {st = c.step.result} c.loop-i.invariant.0 (omega arith) c.step.ensures in
    let e = r.1 in
    absurd (let z : ◌≡◌ {A = ℕ} 0 1 = cc in omega arith)

pub returns-in_default-2 : goal.returns-in_default-2
returns-in_default-2 g c =
    let n = c.loop-i.invariant.1 in
    let r = walk_reads {st = c.step.result} c.loop-i.invariant.0 (omega arith) c.step.ensures in
    let e = r.1 in
    let z = c.in_default.is in
    absurd (let z : ◌≡◌ {A = ℕ} 0 1 = cc in omega arith)

pub print_global-requires : goal.print_global-requires
print_global-requires g c =
    let n = c.loop-i.invariant.1 in
    let s = rw c.in-Ok-Some.field-0-is at c.in-Ok-Some.is in
    (walk_read c.loop-i.invariant.0 (omega arith) c.step.ensures s).0

pub loop-i-preserved : goal.loop-i-preserved
loop-i-preserved g c =
    let n = c.loop-i.invariant.1 in
    let s = rw c.in-Ok-Some.field-0-is at c.in-Ok-Some.is in
    ((walk_read c.loop-i.invariant.0 (omega arith) c.step.ensures s).1, n)
