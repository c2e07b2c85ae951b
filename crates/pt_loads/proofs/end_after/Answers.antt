-- A PT_LOAD that is not bad ends inside memory, so the sum fits.
-- Assumes nothing.
use borrow.Author.Tests.{eq-eqb, ne_eqb}
use Rattle.pt_loads.proofs.Laws.{load_end}
use native.Mathlib.Omega.{arith}
use Rattle.pt_loads.proofs.end_after.Goals as goal

pub overflow_add-result : goal.overflow_add-result
overflow_add-result c =
    omega (
      arith,
      load_end c.args.length c.args.last c.args.s
          (eq-eqb _ _ c.if-s-eq-PT_LOAD.true) c.requires,
    )

pub returns-then-s-eq-PT_LOAD : goal.returns-then-s-eq-PT_LOAD
returns-then-s-eq-PT_LOAD c = rw (eq-eqb _ _ c.if-s-eq-PT_LOAD.true)

pub returns : goal.returns
returns c = rw (ne_eqb _ _ c.if-s-eq-PT_LOAD.false)
