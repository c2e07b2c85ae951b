-- One number, or two; the first is as long with any low bits.
-- Assumes nothing.
use Prim.Native.Nat.{◌+◌, ◌*◌, ◌-◌}
use mathlib.Core.Path.{◌∙◌}
use native.Mathlib.Omega.{arith}
use Rattle.rules.specs.Descriptors.{size_limit}
use Rattle.laws.proofs.Encoding.{uleb_low, uleb_short}
use Rattle.writer.proofs.Laws.{first-length, descriptor_one, two_length}
use Rattle.writer.proofs.descriptor_length.Goals as goal

pub returns-then-granules-lt-SIZES : goal.returns-then-granules-lt-SIZES
returns-then-granules-lt-SIZES c =
    let a = c.args in
    rw (descriptor_one a.distance a.granules (omega arith)) (c.uleb_length-first.ensures ∙ first-length a.distance a.granules (omega arith))

pub overflow_add-result : goal.overflow_add-result
overflow_add-result c =
    let a = c.args in
    let r = c.requires.small in
    let one = uleb_short (size_limit * a.distance + 1) (omega arith) in
    let two = uleb_short (a.granules - 1) (omega arith) in
    omega arith

pub returns : goal.returns
returns c =
    let a = c.args in
    let n = two_length a.distance a.granules (omega arith) in
    let w = uleb_low (size_limit * a.distance) 1 (omega arith) (omega arith) in
    omega arith
