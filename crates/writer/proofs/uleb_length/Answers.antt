-- The highest bit has as many zeros above it as are left of 64, and every seven bits are a byte.
-- Assumes nothing.
use native.Mathlib.Omega.{arith}
use lib.Count.{leading_top}
use Rattle.laws.proofs.Encoding.{uleb_bits}
use Rattle.writer.proofs.uleb_length.Goals as goal

pub overflow_sub-result : goal.overflow_sub-result
overflow_sub-result c = let top = leading_top 64 c.args.value c.requires c.ranges.value.fits in let e = top.1 in omega arith

pub returns : goal.returns
returns c =
    let top = leading_top 64 c.args.value c.requires c.ranges.value.fits in
    let e = top.1 in
    let n = uleb_bits c.args.value top.0 (omega arith) top.2 top.3 in
    omega arith
