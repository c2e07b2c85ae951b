-- The loop keeps that the cursor walks the module's globals.
-- Assumes nothing.
use mathlib.Core.Path.{◌≡◌}
use lib.ListN.{length}
use Rattle.laws.proofs.Globals.{Walk}
use Rattle.rules.specs.Choices.{globals_in}
use Rattle.printing.proofs.print_globals.Given as goal

abbrev pub invariant-loop-i : goal.invariant-loop-i
invariant-loop-i g l = Walk l.f l.m.headers l.table (globals_in l.f l.m) l.i l.cursor × (length (globals_in l.f l.m) ≡ l.m.globals)
