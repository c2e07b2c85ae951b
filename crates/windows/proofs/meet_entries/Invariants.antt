-- The loop keeps that no entry so far repeats, and that the map has their places.
-- Assumes nothing.
use mathlib.Core.Path.{◌≡◌}
use lib.ListN.{length}
use Rattle.std.specs.Prelude.{None}
use Rattle.rules.specs.declared.Module.{Module}
use Rattle.windows.proofs.Laws.{Walking}
use Rattle.windows.proofs.meet_entries.Given as goal

abbrev pub invariant-entries : goal.invariant-entries
invariant-entries l = (l.repeat ≡ None) × (length l.map ≡ length l.initial.map) × ((m : Module) → m.relocations ≡ l.r → Walking l.f m l.lo l.size l.i l.map)
