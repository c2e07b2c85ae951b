-- The loop keeps that no global that is behind abuts.
-- Assumes nothing.
use Prim.Native.Nat.{◌-◌}
use mathlib.Core.Path.{◌≡◌}
use lib.ListN.{length}
use Rattle.rules.specs.First.{first}
use Rattle.rules.specs.Picker.{abuts_at}
use Rattle.picker.proofs.Laws.{Walked}
use Rattle.picker.proofs.some_abut.Given as goal

abbrev pub invariant-loop-i : goal.invariant-loop-i
invariant-loop-i l = Walked l.addresses l.sizes l.i l.end
    × (first (abuts_at l.addresses l.sizes) 0 (length l.addresses) ≡ first (abuts_at l.addresses l.sizes) l.i (length l.addresses - l.i))
