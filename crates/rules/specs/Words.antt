-- Relocated words: the column Tag source of the table of kinds, and what is written at each place.
-- Assumes nothing.
use Rattle.std.specs.Prelude.{ℕ, zero, suc, ◌+◌, ◌*◌, ◌^◌, Bool, cond, List, pos, ◌+ℤ◌}
use Rattle.rules.specs.Relocations.{place_at, addend_at, target_at}
use Rattle.rules.specs.Addresses.{address_of, natural}
use Rattle.rules.specs.Image.{loaded_at}
use Rattle.rules.specs.Plane.{tag_address}
use Rattle.rules.specs.Memory.{put_word, signed, mod64}
use Rattle.rules.specs.declared.Module.{Module}
use Rattle.rules.specs.declared.Target.{Target}
use Rattle.rules.specs.declared.Target.TheVariants.{Base, Defined, Undefined, Barred}

-- where a word's tag comes from: a run-time address, or nowhere
pub data Source : Type 0 where
  none : Source
  at : ℕ → Source

-- the tag source of a target; loaded is *P
abbrev pub source_of : ℕ → Target → ℕ → ℕ → Source
source_of bias Base addend loaded = at (mod64 (pos bias +ℤ signed addend +ℤ signed loaded))
source_of bias (Defined value) addend loaded = at (bias + value)
source_of bias Undefined addend loaded = none
source_of bias Barred addend loaded = none

-- the tag of a source
abbrev pub tag_of : List ℕ → ℕ → ℕ → Source → ℕ
tag_of plane bias n none = 0
tag_of plane bias n (at s) = tag_address plane bias n s

abbrev pub source_tag : List ℕ → ℕ → ℕ → Target → ℕ → ℕ → ℕ
source_tag plane bias n t addend loaded = tag_of plane bias n (source_of bias t addend loaded)

-- an address with a tag in bits 56 to 59
abbrev pub with_tag : ℕ → ℕ → ℕ
with_tag address tag = address + 2 ^ 56 * tag

-- the word: a target's address with the tag of its source, over the loaded bytes
abbrev pub word_of : List ℕ → ℕ → ℕ → Target → ℕ → ℕ → ℕ
word_of plane bias n t addend loaded = with_tag (natural (address_of bias t addend)) (source_tag plane bias n t addend loaded)

-- the tag source and the word of an item, in a memory of n bytes; *P is read from the file, before any relocation
abbrev pub source_at : List ℕ → Module → ℕ → ℕ → Source
source_at f m bias i = source_of bias (target_at f m i) (addend_at f m i) (loaded_at f m.headers (place_at f m i))

abbrev pub word_at : List ℕ → Module → ℕ → ℕ → List ℕ → ℕ → ℕ
word_at f m bias n plane i = word_of plane bias n (target_at f m i) (addend_at f m i) (loaded_at f m.headers (place_at f m i))

-- memory after k items from the index i on, in their order: a word at the place of each that is not skipped
unfoldable pub writes : (ℕ → Bool) → (ℕ → ℕ) → (ℕ → ℕ) → List ℕ → ℕ → ℕ → List ℕ
writes live place word m i zero = m
writes live place word m i (suc k) =
    cond (live (i + k)) (put_word (writes live place word m i k) (place (i + k)) (word (i + k))) (writes live place word m i k)
