-- The plain loader, a definition of its own: AAELF64's base operations, no tags. It is fed the file, the bias and the memory
-- length. It shares with the load the reading of the file and the tests that both owe, and nothing that the load works out.
-- Assumes nothing.
use Rattle.std.specs.Prelude.{ℕ, zero, suc, ◌+◌, ◌*◌, ◌^◌, Bool, true, cond, not, ◌&&◌, List}
use Rattle.std.specs.Prelude.{[], ◌∷◌, ◌++◌, length, take, drop, replicate, ltb, eqb, Option, Some, None}
use Rattle.std.specs.Prelude.{ℤ, pos, negsuc, ◌+ℤ◌, nat_abs}
use Rattle.rules.specs.Outcome.{Outcome, passed, require}
use Rattle.rules.specs.Checks.{Check, checked}
use Rattle.rules.specs.Bytes.{le, part}
use Rattle.rules.specs.First.{faults_at}
use Rattle.rules.specs.Memory.{bytes_of, signed}
use Rattle.rules.specs.Headers.{header_checks, the_headers}
use Rattle.rules.specs.Segments.{header_at, is_load, loads_check, backing_of}
use Rattle.rules.specs.Dynamic.{dynamic_of, symtab, base_tags, entries_check, entry_of}
use Rattle.rules.specs.Tables.{relocations_of}
use Rattle.rules.specs.Packed.{packed_of}
use Rattle.rules.specs.Reader.{the_dynamic, the_relocations, the_packed}
use Rattle.rules.specs.Relocations.{relative, place_at, kind_at, symbol_at, addend_at, is_packed, items, position_at, relocations_check}
use Rattle.rules.specs.Lending.{memory_fits}
use Rattle.rules.specs.declared.Headers.{Headers}
use Rattle.rules.specs.declared.Segment.{Segment}
use Rattle.rules.specs.declared.Module.{Module}

-- m with the bytes s from a position on, and no other byte changed
abbrev pub store : List ℕ → ℕ → List ℕ → List ℕ
store m at s = take at m ++ (s ++ drop (at + length s) m)

-- its memory starts as zeros, and each PT_LOAD's filesz bytes at offset are put from vaddr onward
abbrev pub store_load : List ℕ → Segment → List ℕ → List ℕ
store_load f s m = cond (is_load s) (store m s.vaddr (part f s.offset s.filesz)) m

unfoldable pub segments_of : List ℕ → Headers → ℕ → ℕ → List ℕ
segments_of f h n zero = replicate n 0
segments_of f h n (suc k) = store_load f (header_at f h k) (segments_of f h n k)

-- where the 24 bytes of symbol n stand in the file, by the entry of tag 6
abbrev pub symbol_entry : List ℕ → Headers → Option ℕ → ℕ → Option ℕ
symbol_entry f h None n = None
symbol_entry f h (Some table) n = backing_of f h (table + 24 * n) 24

-- S: bias + value; 0 where the symbol's section is 0
abbrev pub symbol_address : List ℕ → ℕ → Option ℕ → ℕ
symbol_address f bias None = 0
symbol_address f bias (Some at) = cond (eqb (le 2 f (at + 6)) 0) 0 (bias + le 8 f (at + 8))

-- the base operations: RELATIVE is Delta(S) + A, and Delta(S) is the bias; ABS64 and GLOB_DAT are S + A
abbrev pub operation : ℕ → ℕ → ℕ → ℤ → ℤ
operation kind bias s a = cond (eqb kind relative) (pos bias) (pos s) +ℤ a

-- of an entry; of a packed place the bias and the eight bytes that the memory with its segments holds there, which it is handed
abbrev pub bare_address : List ℕ → Module → ℕ → List ℕ → ℕ → ℤ
bare_address f m bias image i =
    cond (is_packed m i) (pos (bias + le 8 image (place_at f m i)))
    (operation (kind_at f m i) bias (symbol_address f bias (symbol_entry f m.headers m.symbols (symbol_at f m i))) (signed (addend_at f m i)))

-- kind 0 is skipped; a packed place has no kind
abbrev pub is_skipped : List ℕ → Module → ℕ → Bool
is_skipped f m i = not (is_packed m i) && eqb (kind_at f m i) 0

-- check 13: below 0, or not below 2^48
abbrev pub off_range : ℤ → Bool
off_range (pos x) = not (ltb x (2 ^ 48))
off_range (negsuc x) = true

unfoldable pub bad_bare : List ℕ → Module → ℕ → List ℕ → ℕ → Bool
bad_bare f m bias image i = not (is_skipped f m i) && off_range (bare_address f m bias image i)

-- the entries in table order, then the packed places: what is not skipped writes its bare address as eight bytes at its place
unfoldable pub bare_words : List ℕ → Module → ℕ → List ℕ → ℕ → List ℕ
bare_words f m bias image zero = image
bare_words f m bias image (suc k) =
    cond (is_skipped f m k) (bare_words f m bias image k)
    (store (bare_words f m bias image k) (place_at f m k) (bytes_of 8 (nat_abs (bare_address f m bias image k))))

-- what it knows of a file: no descriptors
abbrev pub plain_module : List ℕ → Module
plain_module f = record {
  headers = the_headers f;
  dynamic = the_dynamic f;
  symbols = entry_of f (the_dynamic f) symtab;
  relocations = the_relocations f;
  packed = the_packed f;
  descriptors = record { at = 0; bytes = 0 };
  globals = 0;
}

-- its check 12 asks of the memory's length and of the bias
abbrev pub plain_lending : List ℕ → Module → ℕ → ℕ → Check
plain_lending f m bias n = require (memory_fits f m.headers n bias) 12 0

-- its memory before relocation
abbrev pub plain_image : List ℕ → Module → ℕ → List ℕ
plain_image f m n = segments_of f m.headers n m.headers.count

-- checks 1 to 7, 15 and 10 to 13 in this order, where the five memtag tags are unknown
abbrev pub plain_checks : List ℕ → Module → ℕ → ℕ → List Check
plain_checks f m bias n =
    header_checks f
    ++ (loads_check f m.headers
    ∷ passed (dynamic_of f m.headers)
    ∷ entries_check base_tags f m.dynamic
    ∷ passed (relocations_of f m.headers m.dynamic)
    ∷ passed (packed_of f m.headers m.dynamic m.relocations)
    ∷ relocations_check f m
    ∷ plain_lending f m bias n
    ∷ faults_at 13 (position_at f m) (bad_bare f m bias (plain_image f m n)) (items m)
    ∷ [])

-- then segments and words
abbrev pub plain_memory : List ℕ → Module → ℕ → ℕ → List ℕ
plain_memory f m bias n = bare_words f m bias (plain_image f m n) (items m)

unfoldable pub plain_of : List ℕ → ℕ → ℕ → Outcome (List ℕ)
plain_of f bias n = checked (plain_checks f (plain_module f) bias n) (plain_memory f (plain_module f) bias n)
