-- The array's length by a law: nothing may compute the array.
-- Assumes nothing.
use Rattle.std.proofs.Common.{ℕ}
use Rattle.std.proofs.lemmas.List.{length-replicate}
use mathlib.Core.Path.{sym}
use Rattle.bench_limits.proofs.run_globals.Goals as goal

pub slice_bounds-run_choices-end : goal.slice_bounds-run_choices-end
slice_bounds-run_choices-end g c = sym (length-replicate {A = ℕ} 65536 0)
