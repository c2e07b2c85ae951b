-- The loop keeps that the first PT_DYNAMIC is the first from here on.
-- Assumes nothing.
use Rattle.rules.specs.Dynamic.{is_dynamic_at}
use Rattle.rules.specs.First.{first}
use mathlib.Core.Path.{◌≡◌}
use Prim.Native.Nat.{◌≤◌, ◌-◌}
use Rattle.dynamic.proofs.dynamic_from.Given as goal

abbrev pub invariant-loop-i : goal.invariant-loop-i
invariant-loop-i l = (l.i ≤ l.h.count) × (first (is_dynamic_at l.f l.h) l.from (l.h.count - l.from) ≡ first (is_dynamic_at l.f l.h) l.i (l.h.count - l.i))
