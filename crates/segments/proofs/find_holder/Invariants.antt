-- The loop keeps that the first PT_LOAD that holds the bytes is the first from here on.
-- Assumes nothing.
use Prim.Native.Nat.{◌≤◌, ◌-◌}
use mathlib.Core.Path.{◌≡◌}
use Rattle.rules.specs.First.{first}
use Rattle.rules.specs.Segments.{holds_at}
use Rattle.segments.proofs.find_holder.Given as goal

abbrev pub invariant-loop-i : goal.invariant-loop-i
invariant-loop-i l = (l.i ≤ l.h.count) × (first (holds_at l.f l.h l.write l.a l.n) 0 l.h.count ≡ first (holds_at l.f l.h l.write l.a l.n) l.i (l.h.count - l.i))

abbrev pub decreases-loop-i : goal.decreases-loop-i
decreases-loop-i l = l.h.count - l.i
