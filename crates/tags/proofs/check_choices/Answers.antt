-- The number of choices, then the walk over the globals that were counted.
-- Assumes nothing.
use mathlib.Core.Path.{sym, ◌∙◌}
use Rattle.rules.specs.Descriptors.{globals_of}
use Rattle.rules.specs.Choices.{globals_in}
use Rattle.tags.proofs.Laws.{counted, choices_wrong, choices_each}
use Rattle.tags.proofs.check_choices.Goals as goal

pub returns-then-choices-globals : goal.returns-then-choices-globals
returns-then-choices-globals c =
    let a = c.args in
    let m = a.m in
    let k = counted (globals_of a.f.now m.headers m.descriptors) m.globals c.requires in
    rw (c.at.ensures, c.from.ensures)
    (sym (choices_wrong a.f.now m.headers m.descriptors (globals_in a.f.now m) k.0 a.choices.now m.globals k.1
    c.if-choices-globals.true))

pub returns : goal.returns
returns c =
    let a = c.args in
    let m = a.m in
    let k = counted (globals_of a.f.now m.headers m.descriptors) m.globals c.requires in
    rw c.part_of-table.ensures at c.walk_choices.ensures
    ∙ choices_each a.f.now m.headers m.descriptors (globals_in a.f.now m) k.0 a.choices.now m.globals k.1 c.if-choices-globals.false
