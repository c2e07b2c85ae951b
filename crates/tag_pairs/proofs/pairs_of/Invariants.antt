-- The loop keeps that the table is filled from the last start on, where some tag is allowed.
-- Assumes nothing.
use Prim.Native.Nat.{◌*◌, ◌-◌, ◌≤◌}
use mathlib.Core.Path.{◌≡◌}
use lib.ListN.{length}
use Rattle.rules.specs.Picker.{tag_count}
use Rattle.tag_pairs.specs.Pairs.{Suited}
use Rattle.tag_pairs.proofs.Laws.{Filled}
use Rattle.tag_pairs.proofs.pairs_of.Given as goal

abbrev pub invariant-loop-done : goal.invariant-loop-done
invariant-loop-done l = (l.done ≤ tag_count) × ((length l.pairs ≡ 2 * tag_count) × (Suited l.excluded 0 → Filled l.excluded l.done l.tag l.next l.pairs))

abbrev pub decreases-loop-done : goal.decreases-loop-done
decreases-loop-done l = tag_count - l.done
