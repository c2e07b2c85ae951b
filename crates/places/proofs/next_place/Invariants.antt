-- The loop keeps the places ahead while words are read.
-- Assumes nothing.
use Rattle.std.proofs.Common.{◌-◌}
use Rattle.places.proofs.Laws.{standing_at, Reading}
use Rattle.places.proofs.next_place.Given as goal

abbrev pub invariant-loop-rest : goal.invariant-loop-rest
invariant-loop-rest l = Reading l.f l.t (standing_at l.initial.words l.initial.rest l.initial.left l.initial.place) l.words l.rest l.left l.place

abbrev pub decreases-loop-rest : goal.decreases-loop-rest
decreases-loop-rest l = l.t.words - l.words
