-- The loop keeps the end of the last PT_LOAD, and that the first bad one is the first from here on.
-- Assumes nothing.
use native.Mathlib.Numerals.{add-one}
use mathlib.Core.Bool.{true, false}
use mathlib.Core.Path.{refl}
use Rattle.rules.specs.Segments.{bad_load, end_before, loads_check}
use native.Mathlib.Nat.{sub-zero}
use Rattle.rules.proofs.FirstLaws.{first_step, first-hit, first_none, faultless-hit, faultless_none}
use mathlib.Core.Path.{◌≡◌, sym, ◌∙◌}
use native.Mathlib.Omega.{arith}
use Rattle.pt_loads.proofs.check_loads.Goals as goal

pub loop-i-init : goal.loop-i-init
unfolding end_before
loop-i-init c = (omega arith, refl, rw sub-zero)

pub returns-then-is_bad_load : goal.returns-then-is_bad_load
unfolding loads_check bad_load
returns-then-is_bad_load c =
    let l = c.loop-i in
    let a = c.args in
    let t = bad_load a.f.now a.h in
    let hit : t l.i ≡ true = rw (← c.header_at-s.ensures, ← l.invariant.1, ← c.is_bad_load.ensures) c.if-is_bad_load.true in
    rw c.at.ensures (sym (faultless-hit 4 t a.h.count l.i (l.invariant.2 ∙ first-hit t l.i a.h.count (omega arith) hit) (omega arith)))

pub end_after-last-requires : goal.end_after-last-requires
end_after-last-requires c = sym c.is_bad_load.ensures ∙ c.if-is_bad_load.false

pub loop-i-preserved : goal.loop-i-preserved
unfolding bad_load end_before
loop-i-preserved c =
    let l = c.loop-i in
    let a = c.args in
    let t = bad_load a.f.now a.h in
    let fine : t l.i ≡ false = rw (← c.header_at-s.ensures, ← l.invariant.1, ← c.is_bad_load.ensures) c.if-is_bad_load.false in (
      omega arith,
      rw (add-one, ← c.header_at-s.ensures, ← l.invariant.1) c.end_after-last.ensures,
      l.invariant.2 ∙ first_step t l.i a.h.count (omega arith) fine,
    )

pub returns : goal.returns
unfolding loads_check
returns c =
    let l = c.loop-i in
    let a = c.args in
    let t = bad_load a.f.now a.h in
    sym (faultless_none 4 t a.h.count (l.invariant.2 ∙ first_none t l.i a.h.count (omega arith) (omega arith)))
