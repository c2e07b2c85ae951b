-- Examine's answer, packed; a refusal's position is within bounds.
-- Assumes nothing.
use mathlib.Core.Path.{sym, ap, ◌∙◌}
use native.Mathlib.Omega.{arith}
use Rattle.rules.specs.Answers.{of_result}
use Rattle.demands.proofs.Refusals.{examined_refusal}
use Rattle.hagolstan.proofs.hagolstan_examine.Goals as goal

pub packed_answer-requires : goal.packed_answer-requires
packed_answer-requires c =
    λ r e.
    let most = (examined_refusal c.args.file.now _ (sym c.examine_file.ensures ∙ ap of_result e)).position_most in
    omega arith
