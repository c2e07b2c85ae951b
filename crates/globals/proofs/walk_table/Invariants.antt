-- The loop keeps that the whole count is the globals read and the count from here on.
-- Assumes nothing.
use Rattle.globals.proofs.Laws.{Walking}
use Rattle.globals.proofs.walk_table.Given as goal

abbrev pub invariant-loop-i : goal.invariant-loop-i
invariant-loop-i l = Walking l.f l.h l.table l.c l.holder l.i
