-- The part that was lent comes back all v, and past the end nothing is put.
-- Assumes nothing.
use Prim.Native.Nat.{◌+◌, ◌-◌}
use mathlib.Core.Path.{sym, ◌∙◌}
use native.Mathlib.Omega.{arith}
use lib.ListN.{replicate}
use Rattle.rules.proofs.MemoryLaws.{fill_part, put_fill, put_out}
use Rattle.memory.proofs.fill_at.Goals as goal

pub returns-then-m-at : goal.returns-then-m-at
returns-then-m-at c =
    let a = c.args in
    sym (put_out a.at a.m.now (replicate a.count a.v) (omega arith))

pub returns : goal.returns
returns c =
    let a = c.args in
    let n = c.min-n.result in
    fill_part a.at n (a.at + n - a.at) a.v a.m.now _ (omega arith) (omega arith) (c.fill.ensures.after (λ y h. h))
    ∙ put_fill a.at n a.count a.v a.m.now (omega arith)
