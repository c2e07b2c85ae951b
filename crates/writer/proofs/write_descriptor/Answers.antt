-- One number, or two.
-- Assumes nothing.
use Prim.Native.Nat.{◌*◌}
use native.Mathlib.Omega.{arith}
use Rattle.rules.specs.Descriptors.{size_limit}
use Rattle.rules.specs.Writer.{uleb}
use Rattle.rules.proofs.MemoryLaws.{put-length}
use Rattle.writer.proofs.Laws.{descriptor_one, two_length, two_written}
use Rattle.writer.proofs.write_descriptor.Goals as goal

pub write_uleb-requires : goal.write_uleb-requires
write_uleb-requires c =
    let a = c.args in
    let r = c.requires.fits in
    let d = descriptor_one a.distance a.granules (omega arith) in
    rw (← d) r

pub returns-then-granules-lt-SIZES : goal.returns-then-granules-lt-SIZES
returns-then-granules-lt-SIZES c =
    let a = c.args in
    rw (descriptor_one a.distance a.granules (omega arith)) c.write_uleb.ensures

pub write_uleb-next-requires : goal.write_uleb-next-requires
write_uleb-next-requires c =
    let a = c.args in
    let r = c.requires.fits in
    let n = two_length a.distance a.granules (omega arith) in
    omega arith

pub write_uleb-requires-2 : goal.write_uleb-requires-2
write_uleb-requires-2 c =
    let a = c.args in
    let r = c.requires.fits in
    let n = two_length a.distance a.granules (omega arith) in
    let m = c.write_uleb-next.ensures.moved in
    let p = put-length a.buffer.now a.at (uleb (size_limit * a.distance)) in
    rw c.write_uleb-next.ensures.written (omega arith)

pub returns : goal.returns
returns c =
    let a = c.args in
    let w =
    two_written a.buffer.now a.at a.distance a.granules c.write_uleb-next.result c.write_uleb-next.new.buffer
    c.write_uleb-2.result c.write_uleb-2.new.buffer (omega arith)
    (c.write_uleb-next.ensures.moved, c.write_uleb-next.ensures.written)
    (c.write_uleb-2.ensures.moved, c.write_uleb-2.ensures.written) in
    record { moved = w.0; written = w.1 }
