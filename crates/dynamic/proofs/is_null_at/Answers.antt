-- The tag is read and compared.
-- Assumes nothing.
use Rattle.rules.specs.Dynamic.{is_null_at}
use Rattle.dynamic.proofs.is_null_at.Goals as goal

pub returns : goal.returns
unfolding is_null_at
returns c = cc
