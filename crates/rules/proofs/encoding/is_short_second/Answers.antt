-- The tests are those of the definition; where one before it fails no other is asked.
-- Assumes nothing.
use native.Mathlib.Omega.{arith}
use borrow.Author.Tests.{not-true, not-false}
use Rattle.rules.proofs.BoolLaws.{and_false}
use Rattle.rules.proofs.DescriptorLaws.{short_small, short_large}
use Rattle.rules.proofs.encoding.is_short_second.Goals as goal

pub returns-then-not-tight : goal.returns-then-not-tight
returns-then-not-tight c = rw (not-true c.args.tight c.if-not-tight.true-raw)

pub returns-then-v-lt-LEAST_SECOND : goal.returns-then-v-lt-LEAST_SECOND
returns-then-v-lt-LEAST_SECOND c =
    let a = c.args in
    rw (short_small a.s.now a.at a.v a.next (omega arith), and_false a.tight)

pub returns : goal.returns
returns c =
    let a = c.args in
    let large = short_large a.s.now a.at a.v a.next (omega arith) in
    rw (c.is_padded.ensures, not-false a.tight c.if-not-tight.false-raw, large)
