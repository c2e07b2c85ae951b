-- The loop keeps that the whole check is the check from here on.
-- Assumes nothing.
use Prim.Native.Nat.{◌≤◌, ◌-◌}
use mathlib.Core.Path.{◌≡◌}
use Rattle.rules.specs.Descriptors.{table_start}
use Rattle.tags.specs.Walks.{choices_from}
use Rattle.tags.proofs.walk_choices.Given as goal

abbrev pub invariant-loop-i : goal.invariant-loop-i
invariant-loop-i l =
    (l.i ≤ l.globals)
    × (choices_from l.table l.choices l.globals 0 0 table_start ≡ choices_from l.table l.choices (l.globals - l.i) l.i l.last l.c)
