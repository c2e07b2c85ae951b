-- The two walks in their order; a refusal is passed up.
-- Assumes nothing.
use Rattle.rules.specs.Dynamic.{entries_check}
use Rattle.rules.proofs.ResultLaws.{passed_up}
use Rattle.entries.proofs.check_entries.Goals as goal

pub returns-in_err-check_each : goal.returns-in_err-check_each
unfolding entries_check
returns-in_err-check_each c =
    rw (
      passed_up c.from_residual.result c.in_err-check_each.field-0.0 c.from_residual.ensures.1,
      ← c.check_each.ensures,
      c.in_err-check_each.was,
    )

pub returns-then-lacks_partner : goal.returns-then-lacks_partner
unfolding entries_check
returns-then-lacks_partner c =
    rw (c.at.ensures, ← c.check_each.ensures, c.in_ok-check_each.was, ← c.if-lacks_partner.ensures)

pub returns : goal.returns
unfolding entries_check
returns c = rw (← c.check_each.ensures, c.in_ok-check_each.was, ← c.if-lacks_partner.ensures)
