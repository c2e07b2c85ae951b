-- The loop keeps the end of the last PT_LOAD, and that the first bad one is the first from here on.
-- Assumes nothing.
use Rattle.rules.specs.Segments.{bad_load, end_before}
use Rattle.rules.specs.First.{first}
use mathlib.Core.Path.{◌≡◌}
use Prim.Native.Nat.{◌≤◌, ◌-◌}
use Rattle.pt_loads.proofs.check_loads.Given as goal

abbrev pub invariant-loop-i : goal.invariant-loop-i
invariant-loop-i l =
    (l.i ≤ l.h.count) × (l.last ≡ end_before l.f l.h l.i)
    × (first (bad_load l.f l.h) 0 l.h.count ≡ first (bad_load l.f l.h) l.i (l.h.count - l.i))

abbrev pub decreases-loop-i : goal.decreases-loop-i
decreases-loop-i l = l.h.count - l.i
