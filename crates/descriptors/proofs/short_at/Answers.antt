-- One byte, two bytes, or not told.
-- Assumes nothing.
use Prim.Native.Nat.{◌+◌}
use native.Mathlib.Omega.{arith}
use Rattle.rules.proofs.BytesLaws.{got}
use Rattle.descriptors.proofs.Laws.{one_byte, two_bytes}
use Rattle.descriptors.proofs.short_at.Goals as goal

pub returns-then-low-lt-RADIX : goal.returns-then-low-lt-RADIX
returns-then-low-lt-RADIX c =
    let a = c.args in
    let low = got a.s.now a.at c.in_ok-get.field-0 c.in_ok-get.ensures.lookup in
    one_byte a.s.now a.at c.from-low.result low.0 (rw (c.from-low.ensures, low.1)) (omega arith)

pub returns : goal.returns
returns c =
    let a = c.args in
    let low = got a.s.now a.at c.in_ok-get.field-0 c.in_ok-get.ensures.lookup in
    let high = got a.s.now (a.at + 1) c.in_ok-get-2.field-0 c.in_ok-get-2.ensures.lookup in
    two_bytes a.s.now a.at c.from-low.result c.from-high.result high.0 (rw (c.from-low.ensures, low.1)) (rw (c.from-high.ensures, high.1))
    (omega arith) (omega arith) (omega arith) (omega arith)
