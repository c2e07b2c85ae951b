-- Windows of memory in which repeats are looked for one after the other.
-- Assumes nothing.
use Rattle.std.specs.Prelude.{ℕ, ◌≤◌, ◌<◌, ◌≡◌, true, false, List, Option, Some, None}
use Rattle.rules.specs.Relocations.{place_at, live, position_at}
use Rattle.rules.specs.declared.Module.{Module}
use Rattle.marks.specs.Map.{shares}
use Rattle.windows.specs.Window.{NoneBelow, Least, repeats_in, Holds}
use Rattle.repeats.specs.Repeats.{repeats}
use Rattle.repeats.specs.declared.Lowest.{Lowest}

-- large windows start so many bytes apart; a small one is where no more are left; each goes on by so many that two places that share a
-- byte are both in the window in which the lower one starts
abbrev pub large : ℕ
large = 1048576

abbrev pub small : ℕ
small = 65536

abbrev pub overlap : ℕ
overlap = 8

-- ---- one window

module _ (f : List ℕ) (m : Module) (lo size : ℕ) where
  -- no entry among the first n items repeats, and where all entries are among them the map has their places
  pub record Passed (n : ℕ) (map : List ℕ) : Type 0 where
    pub none : (j : ℕ) → j < n → j < m.relocations.entries → repeats_in f m lo size j ≡ false
    pub holds : m.relocations.entries ≤ n → Holds f m lo size m.relocations.entries map

  -- the lowest of the first n items that repeats in the window, with its position; none of them does
  abbrev pub Finds : ℕ → Option Lowest → Type 0
  Finds n (Some v) = Least (repeats_in f m lo size) n v.item × (v.position ≡ position_at f m v.item)
  Finds n None = NoneBelow (repeats_in f m lo size) n

-- ---- windows one after the other

module _ (f : List ℕ) (m : Module) where
  -- where two of the first n items share a byte, the places of both are at an end or behind it
  abbrev pub Behind : ℕ → ℕ → Type 0
  Behind n end = (i j : ℕ) → j < i → i < n → live f m i ≡ true → live f m j ≡ true → shares (place_at f m j) (place_at f m i) ≡ true
      → (end ≤ place_at f m i) × (end ≤ place_at f m j)

  -- a repeat among the first n items, with its position: none before it has the lower of its two places before an end
  pub record Met (n end : ℕ) (v : Lowest) : Type 0 where
    pub below : v.item < n
    pub repeated : repeats f m v.item ≡ true
    pub reported : v.position ≡ position_at f m v.item
    pub behind : Behind v.item end

  -- a search up to an end: a repeat, or none that has the lower of its two places before the end
  abbrev pub Searched : ℕ → ℕ → Option Lowest → Type 0
  Searched n end (Some v) = Met n end v
  Searched n end None = Behind n end
