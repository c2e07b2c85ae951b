-- Places told apart by the words of eight bytes that they fill, counted from the lowest place.
-- Assumes nothing.
use Rattle.std.specs.Prelude.{ℕ, ◌*◌, ◌-◌, ◌/◌, ◌%◌, ◌≤◌, ◌<◌, ◌≡◌, Bool, true, false, cond, not, ◌&&◌, ◌||◌, List, length, Option, Some, None, eqb}
use Rattle.rules.specs.Packed.{packed_before}
use Rattle.rules.specs.Relocations.{place_at, live, items}
use Rattle.rules.specs.declared.Module.{Module}
use Rattle.places.specs.Ahead.{place_limit}
use Rattle.items.specs.Table.{Inside}
use Rattle.marks.specs.Map.{shares}
use Rattle.bits.specs.Bits.{has, with_word}
use Rattle.apart.specs.declared.Told.{Told}

-- bytes of the largest map
abbrev pub large_map : ℕ
large_map = 262144

-- ---- one place and a map

-- a place at a distance from the lowest is not told apart: it fills no one word, or the map has its word
unfoldable pub unsure : List ℕ → ℕ → Bool
unsure map d = not (eqb (d % 8) 0) || has map (d / 8)

-- a place that counts, or does not, met the map: whether it is not told apart, and the map after it
pub record Met (counts : Bool) (d : ℕ) (map : List ℕ) (r : Bool) (after : List ℕ) : Type 0 where
  pub told : r ≡ (counts && unsure map d)
  pub put : r ≡ false → after ≡ cond counts (with_word map (d / 8)) map

-- ---- the items

module _ (f : List ℕ) (m : Module) where
  -- no two of the first n items, but for those skipped, share a byte
  abbrev pub Apart : ℕ → Type 0
  Apart n = (i j : ℕ) → j < i → i < n → live f m i ≡ true → live f m j ≡ true → shares (place_at f m j) (place_at f m i) ≡ true → ⊥

  -- and each fills a word that the map has
  pub record Spread (lo n : ℕ) (map : List ℕ) : Type 0 where
    pub whole : (i : ℕ) → i < n → live f m i ≡ true → (place_at f m i - lo) % 8 ≡ 0
    pub filled : (i : ℕ) → i < n → live f m i ≡ true → has map ((place_at f m i - lo) / 8) ≡ true
    pub apart : Apart n

  -- the first n items are told apart, or one of them is given, and those before it are
  abbrev pub Tells : ℕ → Option Told → Type 0
  Tells n None = Apart n
  Tells n (Some v) = (v.item < n) × Apart v.item

  -- a map of so many bytes, for words from lo on, reaches the first n items
  pub record Within (lo bytes n : ℕ) : Type 0 where
    pub above : (i : ℕ) → i < n → live f m i ≡ true → lo ≤ place_at f m i
    pub reached : (i : ℕ) → i < n → live f m i ≡ true → place_at f m i - lo < 64 * bytes

  -- the first n items can be walked over: they are there, and no place is too high
  pub record Walkable (n : ℕ) : Type 0 where
    pub inside : Inside f m
    pub few : n ≤ items m
    pub counted : m.packed.places ≡ length (packed_before f m.packed.at m.packed.words)
    pub low : (i : ℕ) → i < n → live f m i ≡ true → place_at f m i ≤ place_limit
