-- The loop keeps the memory of the places seen, and where reading them stands.
-- Assumes nothing.
use Rattle.std.proofs.Common.{◌≡◌, ◌≤◌}
use Rattle.places.specs.Ahead.{Reached}
use Rattle.rela_words.specs.Words.{relocated_from}
use Rattle.relocating.proofs.relocate_packed.Given as goal

abbrev pub invariant-loop : goal.invariant-loop
invariant-loop l =
    (l.counter ≤ l.m.packed.places) × Reached l.f l.m l.run l.counter
    × (l.mem ≡ relocated_from l.f l.m l.bias l.plane l.initial.mem l.m.relocations.entries l.counter)
