-- Packed places on their own words: which places the words of a packed table name, and that they are relocated, each at its position.
-- Assumes nothing.
use Rattle.std.specs.Prelude.{ℕ, ◌+◌, ◌*◌, ◌-◌, ◌/◌, ◌%◌, ◌^◌, ◌≤◌, ◌<◌, ◌≡◌, true, not, List, ◌⊎◌, eqb}
use Rattle.rules.specs.Limits.{entry_limit}
use Rattle.rules.specs.Bytes.{le}
use Rattle.rules.specs.First.{count_below}
use Rattle.rules.specs.Relocations.{kind_at, place_at, live, items, position_at, words_of}
use Rattle.rules.specs.declared.Module.{Module}

-- word k of the packed table at a position of the file
abbrev pub word : List ℕ → ℕ → ℕ → ℕ
word f at k = le 8 f (at + 8 * k)

-- word k names place p. An even word names itself. Where word j is the last even one before an odd word k, the run started 8 bytes
-- after word j and has moved on by 504 bytes for each bitmap since, and bit i of word k names the place 8 × (i - 1) bytes into it
pub data Names (f : List ℕ) (at k p : ℕ) : Type 0 where
  by_place : word f at k % 2 ≡ 0 → p ≡ word f at k → Names f at k p
  by_bit : (j i : ℕ) → j < k → word f at j % 2 ≡ 0 → ((x : ℕ) → j < x → x ≤ k → word f at x % 2 ≡ 1)
      → 1 ≤ i → i ≤ 63 → word f at k / 2 ^ i % 2 ≡ 1 → p ≡ word f at j + 8 + 504 * (k - (j + 1)) + 8 * (i - 1) → Names f at k p

-- item k is a packed place: they come after the entries
pub record IsPacked (m : Module) (k : ℕ) : Type 0 where
  pub after : m.relocations.entries ≤ k
  pub listed : k < items m

-- the word of an index names the place of item k, which is reported at that word
pub record NamedBy (f : List ℕ) (m : Module) (k w : ℕ) : Type 0 where
  pub inside : w < m.packed.words
  pub position : position_at f m k ≡ m.relocations.entries + w
  pub names : Names f m.packed.at w (place_at f m k)

-- the item of a place that a word names
pub record Listed (f : List ℕ) (m : Module) (w p : ℕ) : Type 0 where
  pub item : ℕ
  pub packed : IsPacked m item
  pub position : position_at f m item ≡ m.relocations.entries + w
  pub place : place_at f m item ≡ p

-- one item is reported before another, or at the same word and stands lower
abbrev pub Before : List ℕ → Module → ℕ → ℕ → Type 0
Before f m j k =
    (position_at f m j < position_at f m k) ⊎ ((position_at f m j ≡ position_at f m k) × (place_at f m j < place_at f m k))

-- the packed places of a module: each is named by a word, and each that a word names is there, in the order of the words and, at one
-- word, of the bits; none is skipped; the facts count them with the entries not skipped; with the entries they are no more than is allowed
pub record Packs (f : List ℕ) (m : Module) : Type 0 where
  pub named_by : (k : ℕ) → IsPacked m k → (w : ℕ) × NamedBy f m k w
  pub all_listed : (w p : ℕ) → w < m.packed.words → Names f m.packed.at w p → Listed f m w p
  pub in_order : (j k : ℕ) → j < k → IsPacked m j → IsPacked m k → Before f m j k
  pub unskipped : (k : ℕ) → IsPacked m k → live f m k ≡ true
  pub counted : words_of f m ≡ count_below (λ i. not (eqb (kind_at f m i) 0)) m.relocations.entries + m.packed.places
  pub few : items m ≤ entry_limit
