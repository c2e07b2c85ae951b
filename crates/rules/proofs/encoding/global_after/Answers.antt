-- The form first. A distance or a size that is too long by itself puts the end above 2^48, and the sums of the others do not wrap.
-- Assumes nothing.
use Prim.Native.Nat.{◌+◌}
use mathlib.Core.Path.{◌≡◌}
use mathlib.Core.Bool.{false}
use native.Mathlib.Omega.{arith}
use borrow.Author.Tests.{not-true, not-false}
use Rattle.rules.specs.Descriptors.{saying}
use Rattle.rules.proofs.DescriptorLaws.{judged_long, judged_high, judged_low}
use Rattle.rules.proofs.encoding.global_after.Goals as goal

pub returns-then-not-short : goal.returns-then-not-short
returns-then-not-short c =
    let a = c.args in
    let long : a.short ≡ false = search not-true in
    rw (c.at.ensures, judged_long a.index a.short a.end (saying a.distance (a.less + 1) a.next) long)

pub returns-then-distance-gt-GRANULE_LIMIT : goal.returns-then-distance-gt-GRANULE_LIMIT
returns-then-distance-gt-GRANULE_LIMIT c =
    let a = c.args in
    let short = not-false a.short c.if-not-short.false-raw in
    rw (c.at-then-distance-gt-GRANULE_LIMIT.ensures, judged_high a.index a.short a.end (saying a.distance (a.less + 1) a.next) short (omega arith))

pub returns-then-less-ge-GRANULE_LIMIT : goal.returns-then-less-ge-GRANULE_LIMIT
returns-then-less-ge-GRANULE_LIMIT c =
    let a = c.args in
    let short = not-false a.short c.if-not-short.false-raw in
    rw (c.at-then-less-ge-GRANULE_LIMIT.ensures, judged_high a.index a.short a.end (saying a.distance (a.less + 1) a.next) short (omega arith))

pub returns-then-stop-gt-ADDRESS_LIMIT : goal.returns-then-stop-gt-ADDRESS_LIMIT
returns-then-stop-gt-ADDRESS_LIMIT c =
    let a = c.args in
    let short = not-false a.short c.if-not-short.false-raw in
    rw (c.at-then-stop-gt-ADDRESS_LIMIT.ensures, judged_high a.index a.short a.end (saying a.distance (a.less + 1) a.next) short (omega arith))

pub returns : goal.returns
returns c =
    let a = c.args in
    let short = not-false a.short c.if-not-short.false-raw in
    rw (judged_low a.index a.short a.end (saying a.distance (a.less + 1) a.next) short (omega arith))
