-- The lowest item whose place shares a byte with an earlier one's.
-- Assumes nothing.
use Rattle.std.specs.Prelude.{ℕ, ◌<◌, ◌≡◌, Bool, ◌&&◌, List, Option, Some, None}
use Rattle.rules.specs.First.{first, some_below}
use Rattle.rules.specs.Relocations.{place_at, live, position_at}
use Rattle.rules.specs.declared.Module.{Module}
use Rattle.marks.specs.Map.{shares}
use Rattle.repeats.specs.declared.Lowest.{Lowest}

-- item i, not skipped, shares a byte with a place
unfoldable pub meets : List ℕ → Module → ℕ → ℕ → Bool
meets f m p i = live f m i && shares (place_at f m i) p

-- item i, not skipped, shares a byte with an earlier one
unfoldable pub repeats : List ℕ → Module → ℕ → Bool
repeats f m i = live f m i && some_below (meets f m (place_at f m i)) i

-- an item is the lowest of the first n that repeats, with its position
pub record Repeated (f : List ℕ) (m : Module) (n : ℕ) (v : Lowest) : Type 0 where
  pub below : v.item < n
  pub lowest : v.item ≡ first (repeats f m) 0 n
  pub reported : v.position ≡ position_at f m v.item

-- the lowest of the first n items that repeats; none of them does
abbrev pub Lowers : List ℕ → Module → ℕ → Option Lowest → Type 0
Lowers f m n (Some v) = Repeated f m n v
Lowers f m n None = first (repeats f m) 0 n ≡ n
