-- Where reading packed places stands: the places still ahead, and what keeps the numbers small.
-- Assumes nothing.
use Rattle.std.specs.Prelude.{◌≡◌, ℕ, ◌+◌, ◌-◌, ◌*◌, ◌^◌, ◌<◌, ◌≤◌, List, ◌++◌, map, drop, slice_index_or}
use Rattle.rules.specs.Packed.{Named, named, bitmap_bytes, places_in, packed_from, packed_before}
use Rattle.rules.specs.Relocations.{place_at, position_at}
use Rattle.rules.specs.declared.Packed.{Packed}
use Rattle.rules.specs.declared.Module.{Module}
use Rattle.places.specs.declared.Run.{Run}

-- the places ahead: those that the bits left of the word read last name, then those of the words not yet read
unfoldable pub ahead : List ℕ → Packed → Run → List Named
ahead f t c =
    map (named (c.words - 1)) (places_in c.left c.at c.rest)
    ++ packed_from f t.at (c.at + 8 * c.left) c.words (t.words - c.words)

-- a place from here on fits nowhere, and no run is looked at behind it
abbrev pub place_limit : ℕ
place_limit = 2 ^ 60

-- no more words are read than there are, bits are left of a word that was read, the bits left hold every bit, and the run
-- is not far above the last even word
pub record Standing (f : List ℕ) (t : Packed) (c : Run) : Type 0 where
  pub read : c.words ≤ t.words
  pub some : 0 < c.rest → 1 ≤ c.words
  pub bits : c.rest < 2 ^ c.left
  pub few : c.left ≤ 63
  pub low : c.at + 8 * c.left ≤ place_limit + 8 + bitmap_bytes * c.words

-- the next place with its word's index is the first of those ahead; behind one that is not too high, the rest are ahead
pub record Next (f : List ℕ) (t : Packed) (c : Run) (v : Run) : Type 0 where
  pub read : 1 ≤ v.words
  pub found : slice_index_or (ahead f t c) 0 (named 0 0) ≡ named (v.words - 1) v.place
  pub onward : v.place ≤ place_limit → Standing f t v × (ahead f t v ≡ drop 1 (ahead f t c))

-- ---- among the items of a module

-- reading stands before the packed place of an index
pub record Reached (f : List ℕ) (m : Module) (c : Run) (j : ℕ) : Type 0 where
  pub standing : Standing f m.packed c
  pub left : ahead f m.packed c ≡ drop j (packed_before f m.packed.at m.packed.words)

-- item i, where it is a packed place: the one found last, reported at the word read last
pub record Here (f : List ℕ) (m : Module) (c : Run) (i : ℕ) : Type 0 where
  pub read : m.relocations.entries ≤ i → 1 ≤ c.words
  pub place : m.relocations.entries ≤ i → place_at f m i ≡ c.place
  pub position : m.relocations.entries ≤ i → position_at f m i ≡ m.relocations.entries + (c.words - 1)

-- reading comes to item i; behind a place that is not too high it stands before the next
pub record Comes (f : List ℕ) (m : Module) (i : ℕ) (v : Run) : Type 0 where
  pub here : Here f m v i
  pub onward : (m.relocations.entries ≤ i → v.place ≤ place_limit) → Reached f m v (i + 1 - m.relocations.entries)
