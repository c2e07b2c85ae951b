-- The loop keeps what is seen of the entries so far, and the PT_LOAD found last.
-- Assumes nothing.
use Prim.Native.Nat.{◌-◌}
use mathlib.Core.Bool.{true}
use Rattle.segments.specs.Spans.{Sound}
use Rattle.entry_faults.specs.Seen.{Seeing}
use Rattle.entry_faults.proofs.see_entries.Given as goal

abbrev pub invariant-loop-i : goal.invariant-loop-i
invariant-loop-i l = Seeing l.f l.m l.bias 0 l.m.relocations.entries l.t l.i × Sound l.f l.m.headers true l.span

abbrev pub decreases-loop-i : goal.decreases-loop-i
decreases-loop-i l = l.n - l.i
