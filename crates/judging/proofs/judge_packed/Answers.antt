-- The place fits or not, whichever item it is of; then its loaded bytes tell its address.
-- Assumes nothing.
use mathlib.Core.Path.{◌∙◌}
use native.Mathlib.Omega.{arith}
use Rattle.laws.proofs.Items.{packed-live}
use Rattle.judging.proofs.Laws.{place_low, fault_misfit, relocates, packed-allowed, packed_outside}
use Rattle.judging.proofs.judge_packed.Goals as goal

pub returns-in_default : goal.returns-in_default
returns-in_default c i l e =
    let a = c.args in
    fault_misfit a.f.now a.m a.bias i (packed-live a.f.now a.m i l) (packed-allowed a.f.now a.m i l) (rw e c.in_default.ensures)

pub loaded_at-loaded-requires : goal.loaded_at-loaded-requires
loaded_at-loaded-requires c =
    let a = c.args in
    let low = place_low a.f.now a.m.headers a.place c.requires.1 c.in-Some.ensures.1 in
    (c.requires.1, omega arith)

pub returns : goal.returns
returns c i l e =
    let a = c.args in
    relocates a.f.now a.m a.bias i (packed-live a.f.now a.m i l) _ (packed-allowed a.f.now a.m i l) e c.in-Some.ensures.1
    (c.is_outside-outside.ensures ∙ packed_outside a.f.now a.m i l a.bias a.place c.loaded_at-loaded.result e c.loaded_at-loaded.ensures)
    c.in-Some.ensures.0
