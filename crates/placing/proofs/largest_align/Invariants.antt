-- The loop keeps the largest align of the headers seen.
-- Assumes nothing.
use Prim.Native.Nat.{◌≤◌}
use mathlib.Core.Path.{◌≡◌}
use Rattle.rules.specs.Segments.{align_before}
use Rattle.placing.proofs.largest_align.Given as goal

abbrev pub invariant-loop-i : goal.invariant-loop-i
invariant-loop-i l = (l.i ≤ l.h.count) × (l.largest ≡ align_before l.f l.h l.i)
