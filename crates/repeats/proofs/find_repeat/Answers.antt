-- Places that rise, or none, or all told apart, or a repeat behind those, or windows one after the other.
-- Assumes nothing.
use Prim.Native.Nat.{◌+◌}
use native.Mathlib.Omega.{arith}
use Rattle.repeats.specs.Search.{small, overlap}
use Rattle.repeats.proofs.SearchLaws.{lowers_apart, lowers_rising, lowers_searched, lowers_next}
use Rattle.repeats.proofs.find_repeat.Goals as goal
use Rattle.repeats.proofs.find_repeat.Goals.{then-rising-via-then-rising, then-rising-via-else-rising+then-top-low}

pub returns-then-rising : goal.returns-then-rising
returns-then-rising c =
    let a = c.args in
    let b = c.requires.3 in
    elim c.then-rising.branch [
      | then-rising-via-then-rising w ↦ lowers_rising a.f.now a.m a.n (c.requires.5 w.if-rising.true)
      | then-rising-via-else-rising+then-top-low w ↦
          lowers_apart a.f.now a.m a.n (λ i j l u e h near. omega (arith, b.above i u e, b.below i u e, w.if-top-low.true))
    ]

pub returns-in_err-told : goal.returns-in_err-told
returns-in_err-told c =
    let a = c.args in
    rw c.from_residual.ensures (lowers_apart a.f.now a.m a.n c.in_err-told.ensures)

pub returns-in-Some : goal.returns-in-Some
returns-in-Some c =
    let a = c.args in
    let told = c.in_ok-told.ensures in
    lowers_next a.f.now a.m a.n c.in_ok-told.told.item _ (small + overlap) c.in-Some.v told.0 told.1 c.in-Some.ensures

pub returns : goal.returns
returns c =
    let a = c.args in
    let p = c.requires.3 in
    lowers_searched a.f.now a.m a.n (a.top + 1) (λ i l e. omega (arith, p.below i l e)) _
    (c.find_windows.ensures (λ i j l u x y near. (p.above i u x, p.above j (omega arith) y)))
