-- A window of memory, of size bytes from lo on, with a map of the places there, counted from its start.
-- Assumes nothing.
use Rattle.std.specs.Prelude.{ℕ, ◌+◌, ◌*◌, ◌-◌, ◌≤◌, ◌<◌, ◌≡◌, Bool, true, false, cond, not, ◌&&◌, List, length, Option, Some, None, ltb, leb, eqb}
use Rattle.rules.specs.Bytes.{le}
use Rattle.rules.specs.First.{some_below}
use Rattle.rules.specs.Relocations.{place_at, live}
use Rattle.rules.specs.declared.Module.{Module}
use Rattle.marks.specs.Map.{shares, hit, marked}

-- a place is in a window
unfoldable pub in_window : ℕ → ℕ → ℕ → Bool
in_window lo size p = leb lo p && ltb (p - lo) size

-- the entry at a position of the file is not skipped, and is in a window
abbrev pub entry_in : List ℕ → ℕ → ℕ → ℕ → Bool
entry_in f lo size at = not (eqb (le 4 f (at + 8)) 0) && in_window lo size (le 8 f at)

-- ---- one place and a map

-- the map reaches each place of a window
abbrev pub Wide : ℕ → List ℕ → Type 0
Wide size map = size + 23 ≤ 16 * length map

-- the map has no place
abbrev pub Empty : List ℕ → Type 0
Empty map = (p : ℕ) → hit map p ≡ false

-- a place that is kept, or is not, met the map: the answer, and the map after it
pub record Met (lo : ℕ) (keep : Bool) (place : ℕ) (map : List ℕ) (r : Bool) (after : List ℕ) : Type 0 where
  pub hits : r ≡ (keep && hit map (place - lo))
  pub marks : r ≡ false → after ≡ cond keep (marked map (place - lo)) map

-- ---- the items of a window

-- a test holds at no index below n
abbrev pub NoneBelow : (ℕ → Bool) → ℕ → Type 0
NoneBelow test n = (j : ℕ) → j < n → test j ≡ false

-- v is the lowest index below n at which a test holds
pub record Least (test : ℕ → Bool) (n v : ℕ) : Type 0 where
  pub below : v < n
  pub holds : test v ≡ true
  pub none : NoneBelow test v

module _ (f : List ℕ) (m : Module) (lo size : ℕ) where
  -- item i, not skipped, is in the window
  unfoldable pub kept : ℕ → Bool
  kept i = live f m i && in_window lo size (place_at f m i)

  -- and shares a byte with a place
  unfoldable pub meets_in : ℕ → ℕ → Bool
  meets_in p i = kept i && shares (place_at f m i) p

  -- and shares a byte with an earlier one of the window
  unfoldable pub repeats_in : ℕ → Bool
  repeats_in i = kept i && some_below (meets_in (place_at f m i)) i

  -- the map has the places of the first n items
  abbrev pub Holds : ℕ → List ℕ → Type 0
  Holds n map = (p : ℕ) → hit map p ≡ some_below (meets_in (lo + p)) n

  -- a walk over n items ends: at the lowest that repeats, or, where none does, with the places of all in the map
  abbrev pub Walked : ℕ → Option ℕ → List ℕ → Type 0
  Walked n (Some v) map = Least repeats_in n v
  Walked n None map = NoneBelow repeats_in n × Holds n map
