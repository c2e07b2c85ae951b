-- The loop keeps that no item so far repeats, that the map has their places, and that the run stands before the next.
-- Assumes nothing.
use mathlib.Core.Path.{◌≡◌}
use lib.ListN.{length}
use Rattle.repeats.proofs.WindowLaws.{Packing}
use Rattle.repeats.proofs.meet_packed.Given as goal

abbrev pub invariant-loop-i : goal.invariant-loop-i
invariant-loop-i l = (length l.map ≡ length l.initial.map) × Packing l.f l.m l.lo l.size l.n l.map l.run l.i
