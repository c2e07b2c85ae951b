-- The write pass: the words of the items, each over memory as it stands.
-- Assumes nothing.
use Rattle.std.specs.Prelude.{◌≡◌, ℕ, zero, suc, ◌+◌, ◌<◌, ◌≤◌, cond, List, length}
use Rattle.rules.specs.Outcome.{good}
use Rattle.rules.specs.Limits.{entry_limit}
use Rattle.rules.specs.Bytes.{le}
use Rattle.rules.specs.Memory.{put_word, mod64}
use Rattle.rules.specs.Segments.{loads_check}
use Rattle.rules.specs.Packed.{packed_before}
use Rattle.rules.specs.Relocations.{entry_at, kind_at, symbol_at, is_packed, place_at, addend_at, live, items, target}
use Rattle.rules.specs.Addresses.{address_of}
use Rattle.rules.specs.Words.{source_tag, with_tag, word_of}
use Rattle.rules.specs.declared.Module.{Module}
use Rattle.rules.specs.declared.Target.{Target}
use Rattle.rules.specs.declared.Target.TheVariants.{Base, Defined, Undefined, Barred}
use Rattle.places.specs.Ahead.{place_limit}
use Rattle.items.specs.Table.{Inside}

-- the word of a target at a place: its address modulo 2^64, and the tag of its source over what the place holds
abbrev pub target_word : List ℕ → ℕ → List ℕ → Target → ℕ → ℕ → ℕ
target_word plane bias mem t addend place =
    with_tag (mod64 (address_of bias t addend)) (source_tag plane bias (length mem) t addend (le 8 mem place))

-- what a place holds, where the tag of a target's word is told by it
unfoldable pub loaded_for : Target → ℕ → ℕ
loaded_for Base loaded = loaded
loaded_for (Defined value) loaded = 0
loaded_for Undefined loaded = 0
loaded_for Barred loaded = 0

-- a memory with the word of the entry at a position of the file, by its target
abbrev pub put_entry : List ℕ → ℕ → Target → ℕ → List ℕ → List ℕ → List ℕ
put_entry f at t bias plane mem = put_word mem (le 8 f at) (target_word plane bias mem t (le 8 f (at + 16)) (le 8 f at))

-- entry i of a module stands at a position
pub record StandsAt (m : Module) (i at : ℕ) : Type 0 where
  pub entry : i < m.relocations.entries
  pub here : entry_at m.relocations i ≡ at

-- the target of an item; of a packed place, what its place holds
unfoldable pub target_over : List ℕ → Module → List ℕ → ℕ → Target
target_over f m mem i =
    cond (is_packed m i) (Defined (le 8 mem (place_at f m i))) (target f m.headers m.symbols (kind_at f m i) (symbol_at f m i))

-- the word of an item
abbrev pub word_over : List ℕ → Module → ℕ → List ℕ → List ℕ → ℕ → ℕ
word_over f m bias plane mem i = target_word plane bias mem (target_over f m mem i) (addend_at f m i) (place_at f m i)

-- a memory with that word at its place, unless the item is skipped
unfoldable pub written : List ℕ → Module → ℕ → List ℕ → List ℕ → ℕ → List ℕ
written f m bias plane mem i = cond (live f m i) (put_word mem (place_at f m i) (word_over f m bias plane mem i)) mem

-- memory after the n items from an index on, one after the other
unfoldable pub relocated_from : List ℕ → Module → ℕ → List ℕ → List ℕ → ℕ → ℕ → List ℕ
relocated_from f m bias plane mem i zero = mem
relocated_from f m bias plane mem i (suc n) = written f m bias plane (relocated_from f m bias plane mem i n) (i + n)

-- and after the first n
abbrev pub relocated : List ℕ → Module → ℕ → List ℕ → List ℕ → ℕ → List ℕ
relocated f m bias plane mem n = relocated_from f m bias plane mem 0 n

-- the rules' word of an item, with what a memory holds at its place as *P
abbrev pub word_in : List ℕ → Module → ℕ → List ℕ → List ℕ → ℕ → ℕ
word_in f m bias plane mem i = word_of plane bias (length mem) (target_over f m mem i) (addend_at f m i) (le 8 mem (place_at f m i))

-- a module that was read: its PT_LOADs are good, its entries inside the file; its packed places counted and few, and none too high
pub record Placed (f : List ℕ) (m : Module) : Type 0 where
  pub loads : loads_check f m.headers ≡ good tt
  pub inside : Inside f m
  pub counted : m.packed.places ≡ length (packed_before f m.packed.at m.packed.words)
  pub few : items m ≤ entry_limit
  pub low : (k : ℕ) → m.relocations.entries ≤ k → k < items m → place_at f m k ≤ place_limit
