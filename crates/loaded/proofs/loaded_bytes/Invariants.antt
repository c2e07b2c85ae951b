-- The loop keeps that v is the number of the loaded bytes from k on.
-- Assumes nothing.
use Rattle.loaded.proofs.Laws.{Reading}
use Rattle.loaded.proofs.loaded_bytes.Given as goal

abbrev pub invariant-loop-k : goal.invariant-loop-k
invariant-loop-k l = Reading l.f l.h l.place l.v l.k
