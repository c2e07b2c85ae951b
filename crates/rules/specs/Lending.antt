-- Check 12: the lent memory, the plane and the bias.
-- Assumes nothing.
use Rattle.std.specs.Prelude.{ℕ, ◌+◌, ◌*◌, ◌%◌, Bool, ◌&&◌, List, leb, eqb}
use Rattle.rules.specs.Outcome.{require}
use Rattle.rules.specs.Checks.{Check}
use Rattle.rules.specs.Limits.{memory_limit, address_limit, granule, page}
use Rattle.rules.specs.Segments.{loads_end, largest_align}
use Rattle.rules.specs.declared.Headers.{Headers}
use Rattle.rules.specs.declared.Module.{Module}

-- the bias is a multiple of a page and of the largest align, and leaves room for a memory of so many bytes
unfoldable pub bias_fits : ℕ → ℕ → ℕ → Bool
bias_fits align memory bias = eqb (bias % page) 0 && (eqb (bias % align) 0 && leb (bias + memory) address_limit)

-- a memory of so many bytes and the bias fit the PT_LOADs
unfoldable pub memory_fits : List ℕ → Headers → ℕ → ℕ → Bool
memory_fits f h memory bias =
    eqb (memory % granule) 0
    && (leb (loads_end f h) memory
    && (leb memory memory_limit
    && bias_fits (largest_align f h) memory bias))

-- the plane is exactly one sixteenth of the memory
unfoldable pub plane_fits : ℕ → ℕ → Bool
plane_fits memory plane = eqb (granule * plane) memory

-- check 12, of a bias and the lengths of memory and plane
unfoldable pub lending_fits : List ℕ → Module → ℕ → ℕ → ℕ → Bool
lending_fits f m bias n p = memory_fits f m.headers n bias && plane_fits n p

unfoldable pub lending_check : List ℕ → Module → ℕ → ℕ → ℕ → Check
lending_check f m bias n p = require (lending_fits f m bias n p) 12 0
