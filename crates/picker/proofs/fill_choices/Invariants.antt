-- The loop keeps that what is left to pick, put at the index, gives the picks.
-- Assumes nothing.
use Rattle.picker.proofs.Laws.{Picking}
use Rattle.picker.proofs.fill_choices.Given as goal

abbrev pub invariant-loop-i : goal.invariant-loop-i
invariant-loop-i l = Picking l.addresses l.sizes l.random l.excluded l.i l.end l.last l.choices
