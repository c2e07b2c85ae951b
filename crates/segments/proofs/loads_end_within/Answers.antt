-- The loop keeps the answer for the headers seen.
-- Assumes nothing.
use borrow.Author.Tests.{le-leb}
use native.Mathlib.Numerals.{add-one}
use Prim.Native.Nat.{ℕ}
use mathlib.Core.Path.{ap}
use Rattle.segments.proofs.Laws.{leb_cond}
use Rattle.rules.specs.Segments.{end_before}
use lib.Dec.{leb}
use mathlib.Core.Path.{◌≡◌, sym, ◌∙◌}
use native.Mathlib.Omega.{arith}
use Rattle.segments.proofs.loads_end_within.Goals as goal

pub loop-i-init : goal.loop-i-init
unfolding end_before
loop-i-init c = (omega arith, sym (le-leb 0 c.args.n (omega arith)))

pub loop-i-preserved : goal.loop-i-preserved
unfolding end_before
loop-i-preserved c =
    let l = c.loop-i in
    (omega arith, rw (add-one, leb_cond, ← c.header_at-s.ensures, ← l.invariant.1) c.end_within-fits.ensures)

pub returns : goal.returns
returns c =
    let l = c.loop-i in
    let a = c.args in
    let e : l.i ≡ a.h.count = omega arith in
    l.invariant.1 ∙ ap (λ (k : ℕ). leb (end_before a.f.now a.h k) a.n) e
