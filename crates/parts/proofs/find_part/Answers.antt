-- What is found is a PT_LOAD that passed check 4.
-- Assumes nothing.
use mathlib.Core.Path.{sym, ◌∙◌}
use native.Mathlib.Omega.{arith}
use Rattle.parts.proofs.Laws.{found_at}
use Rattle.parts.proofs.find_part.Goals as goal

pub returns-then-is_part : goal.returns-then-is_part
returns-then-is_part c =
    let a = c.args in
    found_at a.f.now a.h c.requires.1 a.write a.a a.n c.loop-i.i c.header_at-s.result (omega arith)
    c.header_at-s.ensures (sym c.is_part.ensures ∙ c.if-is_part.true)
