-- `memory::put_bytes` meets its contract: the part from the position on comes back with the bytes over its front, and past the end nothing is put.
-- Assumes nothing.
use Prim.Native.Nat.{◌-◌}
use mathlib.Core.Path.{sym}
use native.Mathlib.Omega.{arith}
use lib.ListN.{length}
use Rattle.rules.proofs.MemoryLaws.{put_rest, put_out}
use Rattle.memory.proofs.put_bytes.Goals as goal

pub returns-then-at-m : goal.returns-then-at-m
returns-then-at-m c =
    let A = c.args in
    put_rest A.at (length A.m.now - A.at) A.m.now A.src.now _ (omega arith) c.copy_front.ensures

pub returns-else-at-m : goal.returns-else-at-m
returns-else-at-m c =
    let A = c.args in
    sym (put_out A.at A.m.now A.src.now (omega arith))
