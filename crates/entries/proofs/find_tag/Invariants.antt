-- The loop keeps that the first entry with the tag is the first from here on.
-- Assumes nothing.
use Rattle.rules.specs.Dynamic.{has_tag_at}
use Rattle.rules.specs.First.{first}
use mathlib.Core.Path.{◌≡◌}
use Prim.Native.Nat.{◌≤◌, ◌-◌}
use Rattle.entries.proofs.find_tag.Given as goal

abbrev pub invariant-loop-i : goal.invariant-loop-i
invariant-loop-i l = (l.i ≤ l.n) × (first (has_tag_at l.f l.d l.tag) 0 l.n ≡ first (has_tag_at l.f l.d l.tag) l.i (l.n - l.i))
