-- Checks 5 and 6: PT_DYNAMIC, and the dynamic entries up to the first DT_NULL.
-- Assumes nothing.
use Rattle.std.specs.Prelude.{ℕ, ◌+◌, ◌*◌, ◌-◌, ◌/◌, ◌%◌, Bool, true, false, cond, not, ◌&&◌}
use Rattle.std.specs.Prelude.{◌||◌, List, [], ◌∷◌, ◌++◌, length, get_or, ltb, leb, eqb, Option, Some, None}
use Rattle.rules.specs.Outcome.{Outcome, good, refuse, and_then, require}
use Rattle.rules.specs.Checks.{Check}
use Rattle.rules.specs.Limits.{dynamic_limit}
use Rattle.rules.specs.Bytes.{le}
use Rattle.rules.specs.First.{first, some_below, faultless}
use Rattle.rules.specs.Segments.{header_at, is_dynamic, backing_of}
use Rattle.rules.specs.declared.Headers.{Headers}
use Rattle.rules.specs.declared.Segment.{Segment}
use Rattle.rules.specs.declared.Dynamic.{Dynamic}
use Rattle.rules.specs.declared.Allowed.{Allowed}
use Rattle.rules.specs.declared.Allowed.TheVariants.{Any, Exactly, Multiple, Flag, Never}
use Rattle.rules.specs.declared.Known.{Known}

-- the first PT_DYNAMIC of the n headers from i on, or i + n
unfoldable pub is_dynamic_at : List ℕ → Headers → ℕ → Bool
is_dynamic_at f h i = is_dynamic (header_at f h i)

unfoldable pub dynamic_from : List ℕ → Headers → ℕ → ℕ → ℕ
dynamic_from f h i n = first (is_dynamic_at f h) i n

-- the first entry with tag 0 of the n that stand at a position of the file
unfoldable pub is_null_at : List ℕ → ℕ → ℕ → Bool
is_null_at f at i = eqb (le 8 f (at + 16 * i)) 0

unfoldable pub null_entry : List ℕ → ℕ → ℕ → ℕ
null_entry f at n = first (is_null_at f at) 0 n

-- a multiple of 16 from 16 to 4,096
unfoldable pub good_size : ℕ → Bool
good_size size = eqb (size % 16) 0 && (leb 16 size && leb size dynamic_limit)

-- a PT_DYNAMIC of index i and so many bytes, whose contents are backed there in the file
unfoldable pub dynamic_at : List ℕ → ℕ → ℕ → Option ℕ → Outcome Dynamic
dynamic_at f i size None = refuse 5 i
dynamic_at f i size (Some at) =
    cond (good_size size && ltb (null_entry f at (size / 16)) (size / 16))
    (good (record { at = at; entries = null_entry f at (size / 16) }))
    (refuse 5 i)

abbrev pub first_dynamic : List ℕ → Headers → ℕ
first_dynamic f h = dynamic_from f h 0 h.count

abbrev pub second_dynamic : List ℕ → Headers → ℕ
second_dynamic f h = dynamic_from f h (first_dynamic f h + 1) (h.count - (first_dynamic f h + 1))

-- its contents are those at its vaddr
abbrev pub dynamic_in : List ℕ → Headers → ℕ → Segment → Outcome Dynamic
dynamic_in f h i s = dynamic_at f i s.filesz (backing_of f h s.vaddr s.filesz)

-- check 5: none; else two or more; else a bad one
unfoldable pub dynamic_of : List ℕ → Headers → Outcome Dynamic
dynamic_of f h =
    and_then (require (ltb (first_dynamic f h) h.count) 5 h.count) (λ _.
    and_then (require (not (ltb (second_dynamic f h) h.count)) 5 (second_dynamic f h)) (λ _.
    dynamic_in f h (first_dynamic f h) (header_at f h (first_dynamic f h))))

-- an entry's tag and value
abbrev pub tag_at : List ℕ → Dynamic → ℕ → ℕ
tag_at f d i = le 8 f (d.at + 16 * i)

abbrev pub value_at : List ℕ → Dynamic → ℕ → ℕ
value_at f d i = le 8 f (d.at + 16 * i + 8)

-- the tags of ELF64 that we know: the symbol table, RELA; REL and JMPREL; RELR, the packed relocations
abbrev pub symtab : ℕ
symtab = 6

abbrev pub syment : ℕ
syment = 11

abbrev pub rela : ℕ
rela = 7

abbrev pub relasz : ℕ
relasz = 8

abbrev pub relaent : ℕ
relaent = 9

abbrev pub rel : ℕ
rel = 17

abbrev pub jmprel : ℕ
jmprel = 23

abbrev pub relr : ℕ
relr = 36

abbrev pub relrsz : ℕ
relrsz = 35

abbrev pub relrent : ℕ
relrent = 37

-- and of the Memtag ABI: mode, heap, stack, and the descriptor table's address and bytes
abbrev pub memtag_mode : ℕ
memtag_mode = 0x70000009

abbrev pub memtag_heap : ℕ
memtag_heap = 0x7000000b

abbrev pub memtag_stack : ℕ
memtag_stack = 0x7000000c

abbrev pub memtag_globals : ℕ
memtag_globals = 0x7000000d

abbrev pub memtag_globals_size : ℕ
memtag_globals_size = 0x7000000f

-- a row of the table of known tags; rows of one group are partners, and a group goes by its first tag
abbrev pub row : ℕ → ℕ → Allowed → Known
row tag group allowed = record { tag = tag; group = group; allowed = allowed }

-- the rows of ELF64; REL and JMPREL are never allowed
abbrev pub base_tags : List Known
base_tags =
    row symtab symtab Any ∷ row syment symtab (Exactly 24)
    ∷ row rela rela Any ∷ row relasz rela (Multiple 24) ∷ row relaent rela (Exactly 24)
    ∷ row rel rel Never ∷ row jmprel jmprel Never
    ∷ row relr relr Any ∷ row relrsz relr (Multiple 8) ∷ row relrent relr (Exactly 8) ∷ []

-- and the five of the Memtag ABI
abbrev pub known_tags : List Known
known_tags =
    base_tags
    ++ (row memtag_mode memtag_mode Flag
    ∷ row memtag_heap memtag_heap Flag
    ∷ row memtag_stack memtag_stack Flag
    ∷ row memtag_globals memtag_globals Any ∷ row memtag_globals_size memtag_globals Any ∷ [])

abbrev pub row_at : List Known → ℕ → Known
row_at known r = get_or known r (row 0 0 Any)

abbrev pub allows : Allowed → ℕ → Bool
allows Any v = true
allows (Exactly n) v = eqb v n
allows (Multiple n) v = eqb (v % n) 0
allows Flag v = ltb v 2
allows Never v = false

-- the row of a tag, or how many rows there are
unfoldable pub is_row : List Known → ℕ → ℕ → Bool
is_row known tag r = eqb (row_at known r).tag tag

unfoldable pub row_of : List Known → ℕ → ℕ
row_of known tag = first (is_row known tag) 0 (length known)

-- the first of the first n entries that has a tag, or n
unfoldable pub has_tag_at : List ℕ → Dynamic → ℕ → ℕ → Bool
has_tag_at f d tag i = eqb (tag_at f d i) tag

unfoldable pub tag_before : List ℕ → Dynamic → ℕ → ℕ → ℕ
tag_before f d tag n = first (has_tag_at f d tag) 0 n

-- check 6: an entry with a known tag whose value is not allowed, or whose tag an earlier entry has
unfoldable pub bad_entry : List Known → List ℕ → Dynamic → ℕ → Bool
bad_entry known f d i =
    ltb (row_of known (tag_at f d i)) (length known)
    && (not (allows (row_at known (row_of known (tag_at f d i))).allowed (value_at f d i))
    || ltb (tag_before f d (tag_at f d i) i) i)

-- some entry has a tag
unfoldable pub has_tag : List ℕ → Dynamic → ℕ → Bool
has_tag f d tag = ltb (tag_before f d tag d.entries) d.entries

-- one of two, and not both
abbrev pub differ : Bool → Bool → Bool
differ true b = not b
differ false b = b

-- a row's tag is there and its group's first is not, or the other way round
unfoldable pub partnerless : List Known → List ℕ → Dynamic → ℕ → Bool
partnerless known f d r = differ (has_tag f d (row_at known r).tag) (has_tag f d (row_at known r).group)

-- check 6: bad or repeated entries; then a partner missing
unfoldable pub entries_check : List Known → List ℕ → Dynamic → Check
entries_check known f d =
    and_then (faultless 6 (bad_entry known f d) d.entries) (λ _.
    require (not (some_below (partnerless known f d) (length known))) 6 d.entries)

-- the value of a tag's entry
unfoldable pub entry_of : List ℕ → Dynamic → ℕ → Option ℕ
entry_of f d tag =
    cond (has_tag f d tag) (Some (value_at f d (tag_before f d tag d.entries))) None
