-- Wrong definitions, each a rule of the rules or of the plain loader with one mistake in it. Nothing else cites them.
-- Assumes nothing.
use Rattle.std.specs.Prelude.{ℕ, ◌+◌, ◌*◌, ◌/◌, ◌%◌, ◌^◌, Bool, cond, not, ◌&&◌, ◌||◌, List}
use Rattle.std.specs.Prelude.{[], ◌∷◌, ◌++◌, length, ltb, leb, eqb, pos, ◌+ℤ◌, Option, Some, None}
use Rattle.rules.specs.Outcome.{Outcome, good, refuse, and_then, mapped, passed, require}
use Rattle.rules.specs.Checks.{Check, checked}
use Rattle.rules.specs.Bytes.{le}
use Rattle.rules.specs.First.{some_below, faults_at}
use Rattle.rules.specs.Memory.{signed}
use Rattle.rules.specs.Headers.{good_header, header_checks}
use Rattle.rules.specs.Segments.{header_at, is_load, loads_check, covers}
use Rattle.rules.specs.Dynamic.{known_tags, base_tags, row_at, row_of, allows, tag_at, value_at, first_dynamic, dynamic_of, entries_check}
use Rattle.rules.specs.Dynamic.{memtag_mode, entry_of}
use Rattle.rules.specs.Tables.{relocations_of, descriptors_of}
use Rattle.rules.specs.Packed.{packed_of}
use Rattle.rules.specs.Relocations.{relative, abs64, glob_dat, kind_at, symbol_at, place_at, addend_at, items, position_at, symbol_backing, symbol_of}
use Rattle.rules.specs.Relocations.{is_packed, target, target_at, taken, relocations_check}
use Rattle.rules.specs.Reader.{the_dynamic, the_module}
use Rattle.rules.specs.Lending.{lending_check}
use Rattle.rules.specs.Choices.{choices_check}
use Rattle.rules.specs.Addresses.{natural, addresses_check}
use Rattle.rules.specs.Examine.{examine_checks, examined_of}
use Rattle.rules.specs.Image.{loaded_at}
use Rattle.rules.specs.Words.{Source, none, at}
use Rattle.rules.specs.declared.Headers.{Headers}
use Rattle.rules.specs.declared.Dynamic.{Dynamic}
use Rattle.rules.specs.declared.Mode.{Mode}
use Rattle.rules.specs.declared.Mode.TheVariants as mode
use Rattle.rules.specs.declared.Facts.{Facts}
use Rattle.rules.specs.declared.Symbol.{Symbol}
use Rattle.rules.specs.declared.Target.{Target}
use Rattle.rules.specs.declared.Target.TheVariants.{Base, Defined, Undefined, Barred}
use Rattle.rules.specs.declared.Module.{Module}
use Rattle.demands.specs.Plain.{plain_module, plain_lending, plain_image, bad_bare, plain_memory}

-- ---- the reader

-- check 3, where the end of the program header table wraps at 2^64
abbrev pub wrapped_header : List ℕ → Check
wrapped_header f =
    require
    (good_header (length f) (le 2 f 16) (le 2 f 18) (le 4 f 20) (le 2 f 54) (le 2 f 56) 0
    && leb ((le 8 f 32 + 56 * le 2 f 56) % 2 ^ 64) (length f)) 3 0

-- check 5, where a PT_DYNAMIC of 16 bytes is bad
abbrev pub long_dynamic : List ℕ → Headers → Outcome Dynamic
long_dynamic f h =
    and_then (dynamic_of f h) (λ d.
    cond (ltb 16 (header_at f h (first_dynamic f h)).filesz) (good d) (refuse 5 (first_dynamic f h)))

-- check 6, where a tag may be repeated with the same value
abbrev pub unequal_repeat : List ℕ → Dynamic → ℕ → Bool
unequal_repeat f d i =
    ltb (row_of known_tags (tag_at f d i)) (length known_tags)
    && (not (allows (row_at known_tags (row_of known_tags (tag_at f d i))).allowed (value_at f d i))
    || some_below (λ j. eqb (tag_at f d j) (tag_at f d i) && not (eqb (value_at f d j) (value_at f d i))) i)

-- the facts, where a mode of 0 is told as absent
abbrev pub mode_above : Option ℕ → Mode
mode_above None = mode.Absent
mode_above (Some v) = cond (eqb v 0) mode.Absent mode.Asynchronous

abbrev pub examined_above : List ℕ → Outcome Facts
examined_above f =
    mapped (λ (a : Facts). record {
      mode = mode_above (entry_of f (the_dynamic f) memtag_mode);
      heap = a.heap;
      stack = a.stack;
      globals = a.globals;
      words = a.words;
    }) (examined_of f)

-- ---- relocations

-- check 10, where kinds are compared on 16 bits
abbrev pub short_kind : List ℕ → Module → ℕ → Target
short_kind f m k =
    cond (is_packed m k) (target_at f m k) (target f m.headers m.symbols (kind_at f m k % 2 ^ 16) (symbol_at f m k))

-- check 10, where only sections 0xff00 to 0xff1f are refused
abbrev pub reserved_only : Symbol → Target
reserved_only s =
    cond (eqb (s.info % 16) 6 || eqb (s.info % 16) 10) Barred
    (cond (leb 0xff00 s.section && leb s.section 0xff1f) Barred
    (cond (eqb s.section 0) (cond (eqb (s.info / 16) 2) Undefined Barred) (Defined s.value)))

abbrev pub reserved_named : List ℕ → Option ℕ → Target
reserved_named f None = Barred
reserved_named f (Some x) = reserved_only (symbol_of f x)

abbrev pub reserved_target : List ℕ → Module → ℕ → Target
reserved_target f m k =
    cond (is_packed m k) (target_at f m k)
    (cond (eqb (kind_at f m k) relative) (cond (eqb (symbol_at f m k) 0) Base Barred)
    (cond (eqb (kind_at f m k) abs64 || eqb (kind_at f m k) glob_dat)
    (cond (eqb (symbol_at f m k) 0) Barred (reserved_named f (symbol_backing f m.headers (symbol_at f m k) m.symbols)))
    Barred))

-- check 11, where a PT_LOAD is writable by flags above 4
abbrev pub flags_above : List ℕ → Headers → ℕ → ℕ → Bool
flags_above f h p i =
    is_load (header_at f h i) && (ltb 4 (header_at f h i).flags && covers (header_at f h i).vaddr (header_at f h i).memsz p 8)

abbrev pub place_above : List ℕ → Module → ℕ → Bool
place_above f m k =
    (eqb (place_at f m k % 8) 0 && some_below (flags_above f m.headers (place_at f m k)) m.headers.count)
    && not (taken f m (place_at f m k) k)

-- the tag source of RELATIVE, where a sum below 0 counts as 0 and none wraps
abbrev pub source_from : ℕ → Target → ℕ → ℕ → Source
source_from bias Base addend loaded = at (natural (pos bias +ℤ signed addend +ℤ signed loaded))
source_from bias (Defined value) addend loaded = at (bias + value)
source_from bias Undefined addend loaded = none
source_from bias Barred addend loaded = none

abbrev pub source_below : List ℕ → Module → ℕ → ℕ → Source
source_below f m bias k = source_from bias (target_at f m k) (addend_at f m k) (loaded_at f m.headers (place_at f m k))

-- the load's checks, where 13 comes before 12
abbrev pub addresses_first : List ℕ → ℕ → ℕ → ℕ → List ℕ → List Check
addresses_first f bias n p choices =
    examine_checks f
    ++ (addresses_check f (the_module f) bias ∷ lending_check f (the_module f) bias n p ∷ choices_check f (the_module f) choices ∷ [])

-- ---- the plain loader

-- its check 13, by a position for each item
abbrev pub bare_check : List ℕ → Module → ℕ → ℕ → (ℕ → ℕ) → Check
bare_check f m bias n position = faults_at 13 position (bad_bare f m bias (plain_image f m n)) (items m)

-- its checks up to 6, and up to 7
abbrev up_to_entries : List ℕ → Module → List Check
up_to_entries f m = header_checks f ++ (loads_check f m.headers ∷ passed (dynamic_of f m.headers) ∷ entries_check base_tags f m.dynamic ∷ [])

abbrev up_to_table : List ℕ → Module → List Check
up_to_table f m = up_to_entries f m ++ (passed (relocations_of f m.headers m.dynamic) ∷ [])

abbrev packed_check : List ℕ → Module → Check
packed_check f m = passed (packed_of f m.headers m.dynamic m.relocations)

-- what it answers by a list of checks
abbrev plain_by : List ℕ → ℕ → ℕ → List Check → Outcome (List ℕ)
plain_by f bias n checks = checked checks (plain_memory f (plain_module f) bias n)

-- 13 at the index of the item and not at its position
abbrev pub plain_by_item : List ℕ → ℕ → ℕ → Outcome (List ℕ)
plain_by_item f bias n =
    let m = plain_module f in
    plain_by f bias n
    (up_to_table f m ++ (packed_check f m ∷ relocations_check f m ∷ plain_lending f m bias n ∷ bare_check f m bias n (λ i. i) ∷ []))

-- 15 after 10 and 11
abbrev pub plain_late : List ℕ → ℕ → ℕ → Outcome (List ℕ)
plain_late f bias n =
    let m = plain_module f in
    plain_by f bias n
    (up_to_table f m ++ (relocations_check f m ∷ packed_check f m ∷ plain_lending f m bias n ∷ bare_check f m bias n (position_at f m) ∷ []))

-- 7 asked of the descriptor table too
abbrev pub plain_described : List ℕ → ℕ → ℕ → Outcome (List ℕ)
plain_described f bias n =
    let m = plain_module f in
    plain_by f bias n
    (up_to_table f m ++ (passed (descriptors_of f m.headers m.dynamic) ∷ packed_check f m ∷ relocations_check f m ∷ plain_lending f m bias n
    ∷ bare_check f m bias n (position_at f m) ∷ []))

-- whatever passes 1 to 6 is taken
abbrev pub plain_taking : List ℕ → ℕ → ℕ → Outcome (List ℕ)
plain_taking f bias n = plain_by f bias n (up_to_entries f (plain_module f))
