-- The loop keeps that the whole plane is the plane from here on.
-- Assumes nothing.
use Prim.Native.Nat.{◌≤◌, ◌-◌}
use mathlib.Core.Path.{◌≡◌}
use lib.ListN.{length}
use Rattle.rules.specs.Descriptors.{table_start}
use Rattle.tags.specs.Walks.{tagged_from}
use Rattle.tags.proofs.walk_tags.Given as goal

abbrev pub invariant-loop-i : goal.invariant-loop-i
invariant-loop-i l =
    (l.i ≤ l.globals)
    × (tagged_from l.table l.choices l.initial.plane l.globals 0 table_start ≡ tagged_from l.table l.choices l.plane (l.globals - l.i) l.i l.c)
    × (length l.plane ≡ length l.initial.plane)
