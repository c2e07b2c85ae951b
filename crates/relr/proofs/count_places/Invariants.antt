-- The loop keeps that the words so far are good, and their total with the entries.
-- Assumes nothing.
use Rattle.relr.proofs.Laws.{Counting}
use Rattle.relr.proofs.count_places.Given as goal

abbrev pub invariant-loop-k : goal.invariant-loop-k
invariant-loop-k l = Counting l.f l.at l.words l.entries l.k l.total
