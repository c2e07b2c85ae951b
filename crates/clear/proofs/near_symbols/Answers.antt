-- The file part that covers the first symbol backs those after it.
-- Assumes nothing.
use Rattle.std.proofs.Common.{arith}
use Rattle.laws.proofs.Loads.{covers_within}
use Rattle.clear.proofs.Laws.{nears_part}
use Rattle.clear.proofs.near_symbols.Goals as goal

pub overflow_sub-before : goal.overflow_sub-before
overflow_sub-before c =
    let found = c.in-Some-find_part.ensures in
    let w = covers_within _ _ _ _ found.1 in
    let short = found.0.short in
    omega arith

pub overflow_add-result : goal.overflow_add-result
overflow_add-result c =
    let found = c.in-Some-find_part.ensures in
    let w = covers_within _ _ _ _ found.1 in
    let short = found.0.short in
    omega arith

pub overflow_cast-result : goal.overflow_cast-result
overflow_cast-result c =
    let found = c.in-Some-find_part.ensures in
    let w = covers_within _ _ _ _ found.1 in
    let short = found.0.short in
    omega arith

pub overflow_sub-result : goal.overflow_sub-result
overflow_sub-result c =
    let found = c.in-Some-find_part.ensures in
    let w = covers_within _ _ _ _ found.1 in
    let short = found.0.short in
    omega arith

pub returns : goal.returns
returns c =
    let a = c.args in
    let found = c.in-Some-find_part in
    nears_part a.f.now a.m c.in-Some.table found.part found.ensures.0 found.ensures.1 c.in-Some.is
