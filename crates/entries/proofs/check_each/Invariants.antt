-- The loop keeps that the first bad entry is the first from here on.
-- Assumes nothing.
use Rattle.rules.specs.Dynamic.{bad_entry, known_tags}
use Rattle.rules.specs.First.{first}
use mathlib.Core.Path.{◌≡◌}
use Prim.Native.Nat.{◌≤◌, ◌-◌}
use Rattle.entries.proofs.check_each.Given as goal

abbrev pub invariant-loop-i : goal.invariant-loop-i
invariant-loop-i l = (l.i ≤ l.d.entries) × (first (bad_entry known_tags l.f l.d) 0 l.d.entries ≡ first (bad_entry known_tags l.f l.d) l.i (l.d.entries - l.i))

abbrev pub decreases-loop-i : goal.decreases-loop-i
decreases-loop-i l = l.d.entries - l.i
