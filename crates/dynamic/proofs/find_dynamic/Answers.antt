-- By what the two searches found: none, two or more, or one.
-- Assumes nothing.
use mathlib.Core.Path.{refl, sym}
use Rattle.rules.proofs.OptionLaws.{search_there, search_none}
use Rattle.dynamic.proofs.Laws.{dynamic_none, dynamic_more, dynamic_one}
use Rattle.dynamic.proofs.find_dynamic.Goals as goal

pub returns-in_default : goal.returns-in_default
returns-in_default c =
    let a = c.args in
    rw c.at.ensures (sym (dynamic_none a.f.now a.h _ refl (search_none _ a.h.count c.in_default.ensures)))

pub returns-in-Some-dynamic_from : goal.returns-in-Some-dynamic_from
returns-in-Some-dynamic_from c =
    let a = c.args in
    let one = search_there _ _ a.h.count c.in-Some.ensures in
    let two = search_there _ _ a.h.count c.in-Some-dynamic_from.ensures in
    rw c.at-in-Some-dynamic_from.ensures (sym (dynamic_more a.f.now a.h _ one.0 _ one.1 two.0 two.1))

pub returns : goal.returns
returns c =
    let a = c.args in
    let one = search_there _ _ a.h.count c.in-Some.ensures in
    rw (
      dynamic_one a.f.now a.h _ one.0 _ one.1 refl (search_none _ a.h.count c.in_default-dynamic_from.ensures),
      ← c.header_at-s.ensures,
      ← c.backing_of-backing.ensures,
    ) c.dynamic_at.ensures
