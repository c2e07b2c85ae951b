-- The loop keeps that what is left to put gives the whole table put.
-- Assumes nothing.
use Rattle.writer.proofs.Laws.{Left}
use Rattle.writer.proofs.Checked.write.Given as goal

abbrev pub invariant-loop-i : goal.invariant-loop-i
invariant-loop-i l = Left l.addresses l.sizes l.initial.buffer l.i l.end l.at l.buffer
