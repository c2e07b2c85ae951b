-- The tests in their order.
-- Assumes nothing.
use Rattle.rules.proofs.Tests.{tests}
use Rattle.writer.proofs.judge.Goals as goal

pub returns-then-not-sum_within : goal.returns-then-not-sum_within
returns-then-not-sum_within c i = rw (← c.sum_within.ensures, c.if-not-sum_within.true) (search tests)

pub returns : goal.returns
returns c i = rw (← c.sum_within.ensures, c.if-not-sum_within.false) (search tests)
