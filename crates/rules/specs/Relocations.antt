-- Checks 10 and 11: what is relocated, kinds, symbols and places.
-- Assumes nothing.
use Rattle.std.specs.Prelude.{ℕ, ◌+◌, ◌*◌, ◌-◌, ◌/◌, ◌%◌, Bool, true, false, cond, not, ◌&&◌, ◌||◌, List, get_or, leb, eqb, Option, Some, None}
use Rattle.rules.specs.Outcome.{good, refuse}
use Rattle.rules.specs.Checks.{Check}
use Rattle.rules.specs.Limits.{memory_limit}
use Rattle.rules.specs.Bytes.{le}
use Rattle.rules.specs.First.{first, some_below, count_below}
use Rattle.rules.specs.Segments.{backing_of, in_memory}
use Rattle.rules.specs.Packed.{Named, named, packed_before}
use Rattle.rules.specs.Image.{loaded_at}
use Rattle.rules.specs.declared.Headers.{Headers}
use Rattle.rules.specs.declared.Relocations.{Relocations}
use Rattle.rules.specs.declared.Module.{Module}
use Rattle.rules.specs.declared.Symbol.{Symbol}
use Rattle.rules.specs.declared.Target.{Target}
use Rattle.rules.specs.declared.Target.TheVariants.{Base, Defined, Undefined, Barred}

-- the kinds of AAELF64 that are allowed: ABS64, GLOB_DAT, RELATIVE
abbrev pub abs64 : ℕ
abs64 = 257

abbrev pub glob_dat : ℕ
glob_dat = 1025

abbrev pub relative : ℕ
relative = 1027

-- ---- items: what is relocated, each by its index: the entries of the RELA table, then the packed places

-- where entry i of the RELA table stands in the file
abbrev pub entry_at : Relocations → ℕ → ℕ
entry_at r i = r.at + 24 * i

-- an entry's kind and symbol
abbrev pub kind_at : List ℕ → Module → ℕ → ℕ
kind_at f m i = le 4 f (entry_at m.relocations i + 8)

abbrev pub symbol_at : List ℕ → Module → ℕ → ℕ
symbol_at f m i = le 4 f (entry_at m.relocations i + 12)

-- an item is a packed place; then it is this one
abbrev pub is_packed : Module → ℕ → Bool
is_packed m i = leb m.relocations.entries i

abbrev pub packed_item : List ℕ → Module → ℕ → Named
packed_item f m i = get_or (packed_before f m.packed.at m.packed.words) (i - m.relocations.entries) (named 0 0)

-- an item's place and addend; a packed place has none
unfoldable pub place_at : List ℕ → Module → ℕ → ℕ
place_at f m i = cond (is_packed m i) (packed_item f m i).place (le 8 f (entry_at m.relocations i))

unfoldable pub addend_at : List ℕ → Module → ℕ → ℕ
addend_at f m i = cond (is_packed m i) 0 (le 8 f (entry_at m.relocations i + 16))

-- an entry of kind 0 is skipped unread
unfoldable pub live : List ℕ → Module → ℕ → Bool
live f m i = is_packed m i || not (eqb (kind_at f m i) 0)

-- how many items there are, and the position at which one is reported: an entry's index; of a packed place the number of entries
-- and its word's index
abbrev pub items : Module → ℕ
items m = m.relocations.entries + m.packed.places

unfoldable pub position_at : List ℕ → Module → ℕ → ℕ
position_at f m i = cond (is_packed m i) (m.relocations.entries + (packed_item f m i).word) i

-- ---- targets

-- where the entry of symbol n is backed; an address above memory's limit is in no PT_LOAD by check 4
unfoldable pub symbol_backing : List ℕ → Headers → ℕ → Option ℕ → Option ℕ
symbol_backing f h n None = None
symbol_backing f h n (Some table) =
    cond (leb (table + 24 * n) memory_limit) (backing_of f h (table + 24 * n) 24) None

-- the fields of the symbol entry at a position of the file
unfoldable pub symbol_of : List ℕ → ℕ → Symbol
symbol_of f at = record { info = get_or f (at + 4) 0; section = le 2 f (at + 6); value = le 8 f (at + 8) }

-- types 6 and 10 and sections from 0xff00 up are refused, and section 0 unless the binding is weak
unfoldable pub target_of : Symbol → Target
target_of s =
    cond (eqb (s.info % 16) 6 || eqb (s.info % 16) 10) Barred
    (cond (leb 0xff00 s.section) Barred
    (cond (eqb s.section 0) (cond (eqb (s.info / 16) 2) Undefined Barred) (Defined s.value)))

-- the symbol of an entry that must have one
unfoldable pub named_target : List ℕ → Option ℕ → Target
named_target f None = Barred
named_target f (Some at) = target_of (symbol_of f at)

-- RELATIVE must have symbol 0, ABS64 and GLOB_DAT another; no other kind is allowed
unfoldable pub target : List ℕ → Headers → Option ℕ → ℕ → ℕ → Target
target f h symbols kind symbol =
    cond (eqb kind relative) (cond (eqb symbol 0) Base Barred)
    (cond (eqb kind abs64 || eqb kind glob_dat)
    (cond (eqb symbol 0) Barred (named_target f (symbol_backing f h symbol symbols)))
    Barred)

-- the target of an item; a packed place's loaded bytes say it, as a symbol's value does
unfoldable pub target_at : List ℕ → Module → ℕ → Target
target_at f m i =
    cond (is_packed m i) (Defined (loaded_at f m.headers (place_at f m i)))
    (target f m.headers m.symbols (kind_at f m i) (symbol_at f m i))

abbrev pub barred : Target → Bool
barred Base = false
barred (Defined v) = false
barred Undefined = false
barred Barred = true

-- ---- places

-- a multiple of 8 whose eight bytes are inside the memory part of one writable PT_LOAD
unfoldable pub place_fits : List ℕ → Headers → ℕ → Bool
place_fits f h p = eqb (p % 8) 0 && in_memory f h true p 8

-- two places clash where they are equal
abbrev pub clash : ℕ → ℕ → Bool
clash p q = eqb p q

-- one of the first n items, not skipped, clashes with a place
unfoldable pub has_place : List ℕ → Module → ℕ → ℕ → Bool
has_place f m p i = live f m i && clash (place_at f m i) p

unfoldable pub taken : List ℕ → Module → ℕ → ℕ → Bool
taken f m p n = some_below (has_place f m p) n

-- a place that fits, and clashes with no earlier item's
unfoldable pub good_place : List ℕ → Module → ℕ → Bool
good_place f m i = place_fits f m.headers (place_at f m i) && not (taken f m (place_at f m i) i)

-- ---- the walk

-- an item that check 10 or 11 refuses
unfoldable pub bad_relocation : List ℕ → Module → ℕ → Bool
bad_relocation f m i = live f m i && (barred (target_at f m i) || not (good_place f m i))

unfoldable pub first_bad : List ℕ → Module → ℕ
first_bad f m = first (bad_relocation f m) 0 (items m)

-- checks 10 and 11, 10 before 11 at each item
unfoldable pub relocations_check : List ℕ → Module → Check
relocations_check f m =
    cond (eqb (first_bad f m) (items m)) (good tt)
    (refuse (cond (barred (target_at f m (first_bad f m))) 10 11) (position_at f m (first_bad f m)))

-- the words relocated: items not skipped
unfoldable pub words_of : List ℕ → Module → ℕ
words_of f m = count_below (live f m) (items m)
