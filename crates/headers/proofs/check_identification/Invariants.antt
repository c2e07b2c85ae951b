-- The loop keeps that the first wrong byte is the first from here on.
-- Assumes nothing.
use Prim.Native.Nat.{◌≤◌, ◌-◌}
use mathlib.Core.Path.{◌≡◌}
use Rattle.rules.specs.First.{first}
use Rattle.rules.specs.Headers.{wrong_byte}
use Rattle.headers.proofs.check_identification.Given as goal

abbrev pub invariant-loop-i : goal.invariant-loop-i
invariant-loop-i l = (l.i ≤ 7) × (first (wrong_byte l.f) 0 7 ≡ first (wrong_byte l.f) l.i (7 - l.i))
