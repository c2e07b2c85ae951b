-- The loop keeps that the whole measure is the measure from here on.
-- Assumes nothing.
use Rattle.writer.proofs.Laws.{Measuring}
use Rattle.writer.proofs.Globals.measure.Given as goal

abbrev pub invariant-loop-i : goal.invariant-loop-i
invariant-loop-i l = Measuring l.addresses l.sizes l.counted l.i l.end l.total
