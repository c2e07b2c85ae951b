-- The answer of the load's call, packed; the position of a refusal is within bounds.
-- Assumes nothing.
use mathlib.Core.Path.{ap}
use native.Mathlib.Omega.{arith}
use Rattle.rules.specs.Answers.{of_result}
use Rattle.demands.specs.Calls.{buffers}
use Rattle.demands.proofs.Calls.{calls}
use Rattle.packed_load.proofs.load_number.Goals as goal

pub packed_answer-requires : goal.packed_answer-requires
packed_answer-requires c =
    λ r e.
    let a = c.args in
    let most = ((calls a.file.now a.bias a.choices.now (buffers a.memory.now a.plane.now) _ _ c.load_module.ensures
    ).declined _ (ap of_result e)).numbered.position_most in
    omega arith
