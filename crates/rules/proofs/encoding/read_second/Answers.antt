-- The cases of the second number are those of the definition.
-- Assumes nothing.
use mathlib.Core.Path.{◌≡◌}
use Rattle.rules.specs.Descriptors.{number, uleb_at, second}
use Rattle.rules.proofs.UlebLaws.{number_stands}
use Rattle.rules.proofs.encoding.read_second.Goals as goal

pub returns-in_default : goal.returns-in_default
unfolding second
returns-in_default c = rw (c.at.ensures, ← c.read_uleb.ensures, c.in_default.is)

pub is_short_second-short-requires : goal.is_short_second-short-requires
is_short_second-short-requires c =
    let a = c.args in
    let v = c.in-Some.v in
    let next = c.in-Some.next in
    let read : uleb_at a.s.now a.at ≡ number v next = rw (← c.read_uleb.ensures, c.in-Some.is) in
    let stands = number_stands a.s.now a.at v next read in
    (stands.0, stands.1.0)

pub returns : goal.returns
unfolding second
returns c =
    rw (c.global_after.ensures, c.is_short_second-short.ensures, ← c.read_uleb.ensures, c.in-Some.is)
