-- A table's length and an index are below 2^48, so they fit.
-- Assumes nothing.
use mathlib.Core.Path.{ap}
use native.Mathlib.Omega.{arith}
use Rattle.rules.specs.Answers.{of_list_result}
use Rattle.packing.proofs.Exported.{length_low, index_low}
use Rattle.packing.proofs.table_number.Goals as goal

pub packed_list_answer-requires : goal.packed_list_answer-requires
packed_list_answer-requires c = record {
  counted = λ n e. omega (arith, length_low _ _ _ _ _ c.write_table.ensures n (ap of_list_result e));
  placed = λ r e. omega (arith, index_low _ _ _ _ _ c.write_table.ensures _ (ap of_list_result e));
}
