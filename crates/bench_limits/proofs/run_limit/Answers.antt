-- The array's length by a law: nothing may compute the array.
-- Assumes nothing.
use Rattle.std.proofs.Common.{ℕ}
use Rattle.std.proofs.lemmas.List.{length-replicate}
use mathlib.Core.Path.{sym}
use Rattle.bench_limits.proofs.run_limit.Goals as goal

pub slice_bounds-put_and_load-end : goal.slice_bounds-put_and_load-end
slice_bounds-put_and_load-end g c = sym (length-replicate {A = ℕ} 1576960 0)
