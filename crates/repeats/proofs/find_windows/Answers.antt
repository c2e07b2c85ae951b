-- A window more, below what was found: a small one, or a large one.
-- Assumes nothing.
use Rattle.std.proofs.Common.{◌≡◌, ◌+◌, ◌*◌, min, arith, rules}
use Rattle.repeats.specs.Search.{large, small, overlap}
use Rattle.repeats.proofs.SearchLaws.{before, searching_next}
use Rattle.repeats.proofs.find_windows.Goals as goal
use Rattle.repeats.proofs.find_windows.Goals.{then-top-lo-lt-SMALL, else-top-lo-lt-SMALL}

pub loop-k-preserved : goal.loop-k-preserved
loop-k-preserved c =
    let a = c.args in
    let l = c.loop-k in
    let lo = a.low + large * l.k in
    let next = min (a.low + large * (l.k + 1)) (a.top + 1) in
    let at : min lo (a.top + 1) ≡ lo = omega arith in
    let s = rw at at l.invariant in
    let end : c.map_or-end.result ≡ before a.n l.found = search rules in
    rw c.or-found.ensures
    (elim c.if-top-lo-lt-SMALL.branch [
      | then-top-lo-lt-SMALL w ↦
          rw w.here-is
          (searching_next a.f.now a.m a.n a.low lo (small + overlap) next l.found _ s (omega (arith, w.if-top-lo-lt-SMALL.true))
          (rw end at w.find_in-here.ensures))
      | else-top-lo-lt-SMALL w ↦
          rw w.here-is
          (searching_next a.f.now a.m a.n a.low lo (large + overlap) next l.found _ s (omega arith)
          (rw end at w.find_in-here-else-top-lo-lt-SMALL.ensures))
    ])
