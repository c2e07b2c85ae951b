-- The loop keeps the memory of the entries dealt with, each word worked out from memory as it stands.
-- Assumes nothing.
use Rattle.std.proofs.Common.{◌≡◌, ◌-◌, ◌≤◌}
use Rattle.rela_words.specs.Words.{relocated}
use Rattle.rela_words.proofs.relocate_entries.Given as goal

abbrev pub invariant-loop-i : goal.invariant-loop-i
invariant-loop-i l = (l.i ≤ l.m.relocations.entries) × (l.mem ≡ relocated l.f l.m l.bias l.plane l.initial.mem l.i)

abbrev pub decreases-loop-i : goal.decreases-loop-i
decreases-loop-i l = l.n - l.i
