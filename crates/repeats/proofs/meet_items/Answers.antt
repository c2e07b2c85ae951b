-- The entries first: one of them repeats, or all are passed.
-- Assumes nothing.
use mathlib.Core.Path.{refl}
use native.Mathlib.Omega.{arith}
use Rattle.repeats.proofs.WindowLaws.{entry_finds, entries_passed}
use Rattle.repeats.proofs.meet_items.Goals as goal

pub returns-in-Some : goal.returns-in-Some
returns-in-Some c =
    let a = c.args in
    entry_finds a.f.now a.m a.lo a.size a.n c.min-k.result (omega arith) c.in-Some.i (c.in-Some.ensures a.m refl)

pub meet_packed-requires : goal.meet_packed-requires
meet_packed-requires c =
    let a = c.args in (
      omega (arith, c.meet_entries.auto.map, c.requires.0),
      c.requires.2,
      entries_passed a.f.now a.m a.lo a.size a.n c.min-k.result (omega arith) _ (c.in_default.ensures a.m refl),
    )
