-- The loop keeps the answer for the headers seen.
-- Assumes nothing.
use Rattle.rules.specs.Segments.{end_before}
use lib.Dec.{leb}
use mathlib.Core.Path.{◌≡◌}
use Prim.Native.Nat.{◌≤◌, ◌-◌}
use Rattle.segments.proofs.loads_end_within.Given as goal

abbrev pub invariant-loop-i : goal.invariant-loop-i
invariant-loop-i l = (l.i ≤ l.h.count) × (l.fits ≡ leb (end_before l.f l.h l.i) l.n)

abbrev pub decreases-loop-i : goal.decreases-loop-i
decreases-loop-i l = l.h.count - l.i
