-- The array's length by a law: nothing may compute the array.
-- Assumes nothing.
use Rattle.std.proofs.Common.{ℕ}
use Rattle.std.proofs.lemmas.List.{length-replicate}
use mathlib.Core.Path.{sym}
use Rattle.bench_limits.proofs.lend_memory.Goals as goal

pub slice_bounds-lend_plane-end : goal.slice_bounds-lend_plane-end
slice_bounds-lend_plane-end g c = sym (length-replicate {A = ℕ} 2105344 0)
