-- The loop keeps that the entries so far are told apart, and that the map has their words.
-- Assumes nothing.
use mathlib.Core.Path.{◌≡◌}
use lib.ListN.{length}
use Rattle.apart.specs.Apart.{Spread}
use Rattle.apart.proofs.spread_entries.Given as goal

abbrev pub invariant-loop-i : goal.invariant-loop-i
invariant-loop-i l = (length l.map ≡ length l.initial.map) × Spread l.f l.m l.lo l.i l.map
