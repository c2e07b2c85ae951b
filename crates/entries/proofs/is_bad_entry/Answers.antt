-- The row is looked up, then its rule, then an earlier entry with the tag.
-- Assumes nothing.
use Rattle.rules.specs.Dynamic.{bad_entry}
use Rattle.rules.proofs.OptionLaws.{is_some-then_some, then_some-there, then_some-none}
use Rattle.entries.proofs.is_bad_entry.Goals as goal

pub returns-in_default : goal.returns-in_default
unfolding bad_entry
returns-in_default c = rw (← c.tag_at-tag.ensures, then_some-none _ _ c.in_default.ensures)

pub returns-then-is_allowed : goal.returns-then-is_allowed
unfolding bad_entry
returns-then-is_allowed c =
    let e = then_some-there _ _ _ c.in-Some.ensures in
    rw (
      ← c.tag_at-tag.ensures,
      e.0,
      ← e.1,
      ← c.value_at.ensures,
      ← c.if-is_allowed.ensures,
      c.is_some.ensures,
      c.find_tag.ensures,
      is_some-then_some,
    )

pub returns : goal.returns
unfolding bad_entry
returns c =
    let e = then_some-there _ _ _ c.in-Some.ensures in
    rw (← c.tag_at-tag.ensures, e.0, ← e.1, ← c.value_at.ensures, ← c.if-is_allowed.ensures)
