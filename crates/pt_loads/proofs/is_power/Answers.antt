-- A power of two has one bit set.
-- Assumes nothing.
use mathlib.Core.Path.{◌∙◌}
use native.Mathlib.Omega.{arith}
use Rattle.pt_loads.proofs.Laws.{power_ones}
use Rattle.pt_loads.proofs.is_power.Goals as goal

pub returns : goal.returns
returns c = c.is_power_of_two.ensures ∙ power_ones 64 c.args.a (omega arith)
