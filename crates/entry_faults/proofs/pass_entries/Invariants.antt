-- The loop keeps what is seen of the entries so far.
-- Assumes nothing.
use Prim.Native.Nat.{◌≤◌}
use Rattle.entry_faults.specs.Seen.{Seeing}
use Rattle.entry_faults.proofs.pass_entries.Given as goal

abbrev pub invariant-loop-i : goal.invariant-loop-i
invariant-loop-i l = Seeing l.f l.m l.bias 0 l.m.relocations.entries l.t l.i × (l.from ≤ l.i)
