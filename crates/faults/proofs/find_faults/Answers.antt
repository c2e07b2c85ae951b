-- A fault among the entries is the lowest; else all are tallied, and the packed places follow.
-- Assumes nothing.
use native.Mathlib.Omega.{arith}
use Rattle.rules.specs.Relocations.{items}
use Rattle.rules.proofs.OptionLaws.{none_of, some_of}
use Rattle.faults.proofs.Laws.{sees_early, sees_tallied, sees_late}
use Rattle.faults.proofs.find_faults.Goals as goal

pub returns-then-is_some : goal.returns-then-is_some
returns-then-is_some c =
    let a = c.args in
    sees_early a.f.now a.m a.bias a.m.relocations.entries (items a.m) (omega arith) c.see_entries-seen.result c.see_entries-seen.ensures
    (some_of _ c.if-is_some.ensures)

pub see_places-requires : goal.see_places-requires
see_places-requires c =
    let a = c.args in (
      c.requires,
      sees_tallied a.f.now a.m a.bias a.m.relocations.entries (items a.m) (omega arith) c.see_entries-seen.result c.see_entries-seen.ensures
          (none_of _ c.if-is_some.ensures),
    )

pub returns : goal.returns
returns c =
    let a = c.args in
    sees_late a.f.now a.m a.bias a.m.relocations.entries (items a.m) (omega arith) c.see_entries-seen.result c.see_entries-seen.ensures
    (none_of _ c.if-is_some.ensures) c.see_places.result c.see_places.ensures
