-- Each case has at least a byte.
-- Assumes nothing.
use Rattle.std.proofs.Common.{length}
use Rattle.descriptor_vectors.proofs.answer_all.Given as goal

abbrev pub decreases-loop-rest : goal.decreases-loop-rest
decreases-loop-rest g l = length l.rest
