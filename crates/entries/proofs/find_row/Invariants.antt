-- The loop keeps that the first row with the tag is the first from here on.
-- Assumes nothing.
use Rattle.rules.specs.Dynamic.{is_row, known_tags}
use Rattle.rules.specs.First.{first}
use mathlib.Core.Path.{◌≡◌}
use Prim.Native.Nat.{◌-◌}
use Rattle.entries.proofs.find_row.Given as goal

abbrev pub invariant-loop-row : goal.invariant-loop-row
invariant-loop-row l =
    first (is_row known_tags l.tag) 0 15 ≡ first (is_row known_tags l.tag) l.row-index (15 - l.row-index)
