-- The number of globals and an index are below 2^48, so they fit.
-- Assumes nothing.
use mathlib.Core.Path.{ap}
use native.Mathlib.Omega.{arith}
use Rattle.rules.specs.Answers.{of_list_result}
use Rattle.packing.proofs.Exported.{globals_low, fault_low}
use Rattle.packed_picks.proofs.picks_number.Goals as goal

pub packed_list_answer-requires : goal.packed_list_answer-requires
packed_list_answer-requires c = record {
  counted = λ n e. omega (arith, globals_low _ _ _ _ _ _ _ c.pick_tags.ensures n (ap of_list_result e));
  placed = λ r e. omega (arith, fault_low _ _ _ _ _ _ _ c.pick_tags.ensures _ (ap of_list_result e));
}
