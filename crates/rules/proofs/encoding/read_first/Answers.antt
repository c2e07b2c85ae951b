-- The cases of the first number are those of the definition, and a size that is not 0 is one more than what is passed on.
-- Assumes nothing.
use Prim.Native.Nat.{◌+◌, ◌-◌, ◌%◌}
use mathlib.Core.Path.{◌≡◌}
use native.Mathlib.Omega.{arith}
use borrow.Author.Tests.{eq-eqb, ne_eqb}
use Rattle.rules.specs.Descriptors.{number, uleb_at, descriptor, read_at}
use Rattle.rules.proofs.UlebLaws.{number_stands}
use Rattle.rules.proofs.DescriptorLaws.{short_one, short_two}
use Rattle.rules.proofs.encoding.read_first.Goals as goal

pub returns-in_default : goal.returns-in_default
unfolding descriptor read_at
returns-in_default c = rw (c.at.ensures, ← c.read_uleb.ensures, c.in_default.is)

pub is_padded-tight-requires : goal.is_padded-tight-requires
is_padded-tight-requires c =
    let a = c.args in
    let v = c.in-Some.v in
    let next = c.in-Some.next in
    let read : uleb_at a.s.now a.at ≡ number v next = rw (← c.read_uleb.ensures, c.in-Some.is) in
    let stands = number_stands a.s.now a.at v next read in
    (stands.0, stands.1.0)

pub returns-then-size-eq0 : goal.returns-then-size-eq0
unfolding descriptor read_at
returns-then-size-eq0 c =
    let a = c.args in
    let v = c.in-Some.v in
    let next = c.in-Some.next in
    let none = c.if-size-eq0.true in
    let short = short_two a.s.now a.at v next none in
    rw (c.read_second.ensures, c.is_padded-tight.ensures, ← c.read_uleb.ensures, c.in-Some.is, short, eq-eqb _ _ none)

pub returns-else-size-eq0 : goal.returns-else-size-eq0
unfolding descriptor read_at
returns-else-size-eq0 c =
    let a = c.args in
    let v = c.in-Some.v in
    let next = c.in-Some.next in
    let some = c.if-size-eq0.false in
    let short = short_one a.s.now a.at v next some in
    let size : v % 8 - 1 + 1 ≡ v % 8 = omega arith in
    rw (c.global_after.ensures, c.is_padded-tight.ensures, ← c.read_uleb.ensures, c.in-Some.is, short, ne_eqb _ _ some, size)
