-- The tests in their order; a good size is not above the limit, so the count of entries fits.
-- Assumes nothing.
use mathlib.Core.Path.{sym}
use Rattle.rules.proofs.OptionLaws.{then_some-there, then_some-none}
use Rattle.dynamic.proofs.Laws.{good_size_lem}
use Rattle.rules.specs.Dynamic.{dynamic_at}
use native.Mathlib.Omega.{arith}
use Rattle.dynamic.proofs.dynamic_at.Goals as goal

pub returns-in_default : goal.returns-in_default
unfolding dynamic_at
returns-in_default c = rw (c.at.ensures, c.in_default.is)

pub returns-then-not-is_good_size : goal.returns-then-not-is_good_size
unfolding dynamic_at
returns-then-not-is_good_size c = rw (c.at-then-not-is_good_size.ensures, c.in-Some.is, ← c.if-not-is_good_size.ensures)

pub overflow_cast-n : goal.overflow_cast-n
overflow_cast-n c =
    let h = good_size_lem c.args.size (sym c.if-not-is_good_size.ensures) in
    omega arith

pub returns-in_default-null_entry : goal.returns-in_default-null_entry
unfolding dynamic_at
returns-in_default-null_entry c =
    rw (
      c.at-in_default-null_entry.ensures,
      c.in-Some.is,
      ← c.if-not-is_good_size.ensures,
      then_some-none _ _ c.in_default-null_entry.ensures,
    )

pub returns : goal.returns
unfolding dynamic_at
returns c =
    let e = then_some-there _ _ _ c.in-Some-null_entry.ensures in
    rw (c.in-Some.is, ← c.if-not-is_good_size.ensures, e.0, ← e.1)
