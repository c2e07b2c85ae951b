-- The tests in their order.
-- Assumes nothing.
use Rattle.rules.specs.Dynamic.{good_size}
use Rattle.rules.proofs.Tests.{tests}
use Rattle.dynamic.proofs.is_good_size.Goals as goal

pub returns-then-size-ne0 : goal.returns-then-size-ne0
unfolding good_size
returns-then-size-ne0 c = search tests

pub returns-then-size-lt-ENTRY_BYTES : goal.returns-then-size-lt-ENTRY_BYTES
unfolding good_size
returns-then-size-lt-ENTRY_BYTES c = search tests

pub returns : goal.returns
unfolding good_size
returns c = search tests
