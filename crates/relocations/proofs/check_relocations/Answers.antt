-- The lowest item with a fault, the lowest before it that repeats a place: the lower of them is the lowest bad one.
-- Assumes nothing.
use mathlib.Core.Path.{sym}
use Rattle.relocations.proofs.Laws.{seen_few, walk_repeat, walk_fault, walk_good}
use Rattle.relocations.proofs.check_relocations.Goals as goal

pub find_repeat-requires : goal.find_repeat-requires
find_repeat-requires c =
    let t = c.find_faults-seen.ensures.tallied in
    (c.requires.inside, seen_few c.args.f.now c.args.m c.args.bias _ c.find_faults-seen.ensures, c.requires.counted, t.bounded, t.limit, t.rising)

pub returns-in-Some : goal.returns-in-Some
returns-in-Some c =
    let a = c.args in
    rw c.at.ensures (sym (walk_repeat a.f.now a.m a.bias _ c.find_faults-seen.ensures c.in-Some.repeat c.in-Some.ensures))

pub returns-in-Some-fault : goal.returns-in-Some-fault
returns-in-Some-fault c =
    let a = c.args in
    sym (walk_fault a.f.now a.m a.bias _ c.find_faults-seen.ensures c.in_default.ensures c.in-Some-fault.fault c.in-Some-fault.is)

pub returns : goal.returns
returns c =
    let a = c.args in
    sym (walk_good a.f.now a.m a.bias _ c.find_faults-seen.ensures c.in_default.ensures c.in_default-fault.is)
