-- `memory::copy_front` meets its contract: after i turns the first i bytes of src are over the front, and the shorter length is all that counts.
-- Assumes nothing.
use mathlib.Core.Path.{sym, ◌∙◌}
use native.Mathlib.Omega.{arith}
use lib.ListN.{length-set}
use borrow.Author.Rules.{rules}
use Rattle.rules.proofs.MemoryLaws.{over-nil, over_more, over-take}
use Rattle.memory.proofs.copy_front.Goals as goal

pub loop-i-init : goal.loop-i-init
loop-i-init c = (search rules, sym (over-nil _), search rules)

pub loop-i-preserved : goal.loop-i-preserved
loop-i-preserved c =
    let L = c.loop-i in
    let A = c.args in
    (omega arith, over_more L.i A.dst.now A.src.now L.dst L.invariant.1 (omega arith), simp length-set L.invariant.2)

pub returns : goal.returns
returns c =
    let L = c.loop-i in
    let A = c.args in
    L.invariant.1 ∙ over-take L.i A.dst.now A.src.now (omega arith)
