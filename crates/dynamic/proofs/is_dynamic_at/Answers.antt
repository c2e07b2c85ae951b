-- The header is read and its kind compared.
-- Assumes nothing.
use Rattle.rules.specs.Dynamic.{is_dynamic_at}
use Rattle.dynamic.proofs.is_dynamic_at.Goals as goal

pub returns : goal.returns
unfolding is_dynamic_at
returns c = cc
