-- The loop keeps the memory of the headers seen, over zeros, once it is cleared from end on.
-- Assumes nothing.
use lib.ListN.{length, replicate}
use Prim.Native.Nat.{◌≤◌}
use mathlib.Core.Path.{◌≡◌}
use Rattle.rules.specs.Image.{loads_over}
use Rattle.rules.specs.Memory.{put}
use Rattle.placing.proofs.place_segments.Given as goal

abbrev pub invariant-loop-i : goal.invariant-loop-i
invariant-loop-i l =
    (l.i ≤ l.h.count)
    × (put l.mem l.end (replicate (length l.initial.mem) 0) ≡ loads_over l.f l.h (replicate (length l.initial.mem) 0) l.i)
    × (length l.mem ≡ length l.initial.mem)
