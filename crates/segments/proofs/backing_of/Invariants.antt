-- The loop keeps that the first PT_LOAD that backs the bytes is the first from here on.
-- Assumes nothing.
use Rattle.rules.specs.Segments.{backs_at}
use Rattle.rules.specs.First.{first}
use mathlib.Core.Path.{◌≡◌}
use Prim.Native.Nat.{◌≤◌, ◌-◌}
use Rattle.segments.proofs.backing_of.Given as goal

abbrev pub invariant-loop-i : goal.invariant-loop-i
invariant-loop-i l = (l.i ≤ l.h.count) × (first (backs_at l.f l.h l.a l.n) 0 l.h.count ≡ first (backs_at l.f l.h l.a l.n) l.i (l.h.count - l.i))

abbrev pub decreases-loop-i : goal.decreases-loop-i
decreases-loop-i l = l.h.count - l.i
