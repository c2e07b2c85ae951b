-- Eight bytes that are backed are loaded from where they are backed; others are read one by one.
-- Assumes nothing.
use mathlib.Core.Path.{sym, ◌∙◌}
use Rattle.laws.proofs.Loaded.{loaded-backed}
use Rattle.loaded.proofs.loaded_at.Goals as goal

pub returns-in-Some : goal.returns-in-Some
returns-in-Some c =
    let a = c.args in
    c.read64.ensures ∙ sym (loaded-backed a.f.now a.h c.requires.0 a.place _ (sym c.backing_of.ensures ∙ c.in-Some.is))
