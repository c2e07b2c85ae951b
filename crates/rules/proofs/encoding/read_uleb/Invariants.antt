-- From turn to turn the number from the start on is what has been read, with the rest of the number above it.
-- Assumes nothing.
use Prim.Native.Nat.{◌≤◌, ◌<◌, ◌^◌, ◌-◌}
use mathlib.Core.Path.{◌≡◌}
use Rattle.rules.specs.Descriptors.{uleb_in}
use Rattle.rules.proofs.UlebLaws.{above}
use Rattle.rules.proofs.encoding.read_uleb.Given as goal

abbrev pub invariant-loop : goal.invariant-loop
invariant-loop l =
    (l.counter ≤ 10) × (l.scale ≡ 128 ^ (l.counter - 1)) × (l.value < l.scale)
    × (uleb_in 10 l.s l.from ≡ above l.value l.scale (uleb_in (11 - l.counter) l.s l.at))
