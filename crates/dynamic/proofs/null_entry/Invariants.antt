-- The loop keeps that the first DT_NULL is the first from here on.
-- Assumes nothing.
use Rattle.rules.specs.Dynamic.{is_null_at}
use Rattle.rules.specs.First.{first}
use mathlib.Core.Path.{◌≡◌}
use Prim.Native.Nat.{◌≤◌, ◌-◌}
use Rattle.dynamic.proofs.null_entry.Given as goal

abbrev pub invariant-loop-i : goal.invariant-loop-i
invariant-loop-i l = (l.i ≤ l.n) × (first (is_null_at l.f l.at) 0 l.n ≡ first (is_null_at l.f l.at) l.i (l.n - l.i))
