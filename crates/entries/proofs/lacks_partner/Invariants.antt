-- The loop keeps that the first partnerless row is the first from here on.
-- Assumes nothing.
use Rattle.rules.specs.Dynamic.{partnerless, known_tags}
use Rattle.rules.specs.First.{first}
use mathlib.Core.Path.{◌≡◌}
use Prim.Native.Nat.{◌-◌}
use Rattle.entries.proofs.lacks_partner.Given as goal

abbrev pub invariant-loop-row : goal.invariant-loop-row
invariant-loop-row l =
    first (partnerless known_tags l.f l.d) 0 15 ≡ first (partnerless known_tags l.f l.d) l.row-index (15 - l.row-index)
