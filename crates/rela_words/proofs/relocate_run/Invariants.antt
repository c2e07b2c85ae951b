-- The loop keeps the memory of the entries dealt with.
-- Assumes nothing.
use Rattle.std.proofs.Common.{◌≡◌, ◌-◌, ◌≤◌}
use Rattle.rela_words.specs.Words.{relocated_from}
use Rattle.rela_words.proofs.relocate_run.Given as goal

abbrev pub invariant-loop-i : goal.invariant-loop-i
invariant-loop-i l = (l.from ≤ l.i) × (l.i ≤ l.m.relocations.entries) × (l.mem ≡ relocated_from l.f l.m l.bias l.plane l.initial.mem l.from (l.i - l.from))
