-- The loop keeps that the items so far are told apart, that the map has their words, and that the run stands before the next.
-- Assumes nothing.
use mathlib.Core.Path.{◌≡◌}
use lib.ListN.{length}
use Rattle.apart.proofs.PackedLaws.{Packing}
use Rattle.apart.proofs.spread_packed.Given as goal

abbrev pub invariant-loop-i : goal.invariant-loop-i
invariant-loop-i l = (length l.map ≡ length l.initial.map) × Packing l.f l.m l.lo l.n l.map l.run l.i
