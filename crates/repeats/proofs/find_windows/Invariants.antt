-- The loop keeps that the windows so far are searched.
-- Assumes nothing.
use Rattle.std.proofs.Common.{◌+◌, ◌*◌, min}
use Rattle.repeats.specs.Search.{large}
use Rattle.repeats.proofs.SearchLaws.{Searching}
use Rattle.repeats.proofs.find_windows.Given as goal

abbrev pub invariant-loop-k : goal.invariant-loop-k
invariant-loop-k l = Searching l.f l.m l.n l.low (min (l.low + large * l.k) (l.top + 1)) l.found
