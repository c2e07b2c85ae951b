-- The loop keeps what is seen of the items so far, the PT_LOAD and the file part found last, and where reading packed places stands.
-- Assumes nothing.
use Prim.Native.Nat.{◌-◌}
use mathlib.Core.Bool.{true}
use Rattle.rules.specs.Relocations.{items}
use Rattle.places.specs.Ahead.{Reached}
use Rattle.segments.specs.Spans.{Sound}
use Rattle.parts.specs.Parts.{Parted}
use Rattle.entry_faults.specs.Seen.{Seeing}
use Rattle.faults.proofs.see_places.Given as goal

abbrev pub invariant-loop-i : goal.invariant-loop-i
invariant-loop-i l = Seeing l.f l.m l.bias l.m.relocations.entries (items l.m) l.t l.i × Sound l.f l.m.headers true l.span × Parted l.f l.m.headers true l.part
    × Reached l.f l.m l.run (l.i - l.m.relocations.entries)
