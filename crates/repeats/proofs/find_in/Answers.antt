-- The map's length and its zeros by laws: nothing may compute the array.
-- Assumes nothing.
use Prim.Native.Nat.{ℕ}
use lib.ListN.{length-replicate}
use Rattle.marks.proofs.Laws.{hit_zeros}
use Rattle.repeats.proofs.find_in.Goals as goal

pub meet_items-requires : goal.meet_items-requires
meet_items-requires g c = (rw (length-replicate {A = ℕ} g.row.MAP 0) c.requires.1, hit_zeros g.row.MAP, c.requires.0)
