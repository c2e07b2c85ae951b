-- The loop keeps that what is left to put gives the whole number put.
-- Assumes nothing.
use Prim.Native.Nat.{◌+◌, ◌^◌, ◌<◌}
use mathlib.Core.Path.{◌≡◌}
use lib.ListN.{length}
use Rattle.rules.specs.Memory.{put}
use Rattle.rules.specs.Writer.{uleb}
use Rattle.writer.proofs.write_uleb.Given as goal

abbrev pub invariant-loop-v : goal.invariant-loop-v
invariant-loop-v l = (l.v < 2 ^ 64) × ((l.at + length (uleb l.v) ≡ l.from + length (uleb l.value))
    × ((length l.buffer ≡ length l.initial.buffer) × (put l.buffer l.at (uleb l.v) ≡ put l.initial.buffer l.from (uleb l.value))))

abbrev pub decreases-loop-v : goal.decreases-loop-v
decreases-loop-v l = l.v
