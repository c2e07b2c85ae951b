-- A module with one of each thing that document 01 speaks of, written out, and where its parts stand.
-- Assumes nothing.
use Rattle.std.specs.Prelude.{ℕ, ◌+◌, ◌*◌, ◌-◌, ◌^◌, List, [], ◌∷◌, ◌++◌, replicate}
use Rattle.rules.specs.Memory.{put, bytes_of}

-- ---- the module: 640 bytes, two PT_LOADs, three globals, three words

abbrev pub joined : List (List ℕ) → List ℕ
joined [] = []
joined (s ∷ ss) = s ++ joined ss

-- kind and flags, offset, vaddr, filesz, memsz, align
abbrev program_header : ℕ → ℕ → ℕ → ℕ → ℕ → ℕ → ℕ → List ℕ
program_header kind flags offset vaddr filesz memsz align =
    joined
    (bytes_of 4 kind ∷ bytes_of 4 flags ∷ bytes_of 8 offset ∷ bytes_of 8 vaddr ∷ bytes_of 8 0
    ∷ bytes_of 8 filesz ∷ bytes_of 8 memsz ∷ bytes_of 8 align ∷ [])

abbrev pub dynamic_entry : ℕ → ℕ → List ℕ
dynamic_entry tag value = bytes_of 8 tag ++ bytes_of 8 value

abbrev symbol_entry : ℕ → ℕ → ℕ → List ℕ
symbol_entry info section value = joined (bytes_of 4 0 ∷ bytes_of 2 info ∷ bytes_of 2 section ∷ bytes_of 8 value ∷ bytes_of 8 0 ∷ [])

abbrev relocation : ℕ → ℕ → ℕ → ℕ → List ℕ
relocation place kind symbol addend = joined (bytes_of 8 place ∷ bytes_of 4 kind ∷ bytes_of 4 symbol ∷ bytes_of 8 addend ∷ [])

-- a number below 0 as eight bytes hold it
abbrev pub minus : ℕ → ℕ
minus n = 2 ^ 64 - n

-- the first PT_LOAD, 0 to 592, read-only: all tables. The first DT_NULL is entry 7, and there is room for three more entries. The
-- globals are 656 to 672, 672 to 688 and 704 to 720
abbrev pub front : List ℕ
front =
    joined
    ((0x7f ∷ 0x45 ∷ 0x4c ∷ 0x46 ∷ 2 ∷ 1 ∷ 1 ∷ []) ∷ replicate 9 0 ∷ bytes_of 2 3 ∷ bytes_of 2 183 ∷ bytes_of 4 1 ∷ bytes_of 8 0
    ∷ bytes_of 8 64 ∷ replicate 14 0 ∷ bytes_of 2 56 ∷ bytes_of 2 3 ∷ replicate 6 0
    ∷ program_header 1 4 0 0 592 592 0
    ∷ program_header 1 6 592 656 48 64 64
    ∷ program_header 2 6 232 232 176 176 8
    ∷ dynamic_entry 6 408 ∷ dynamic_entry 11 24
    ∷ dynamic_entry 7 480 ∷ dynamic_entry 8 96 ∷ dynamic_entry 9 24
    ∷ dynamic_entry 0x7000000d 576 ∷ dynamic_entry 0x7000000f 4
    ∷ replicate 64 0
    ∷ symbol_entry 0 0 0 ∷ symbol_entry 0x11 1 656 ∷ symbol_entry 0x20 0 0
    ∷ relocation 656 1027 0 688
    ∷ relocation 664 257 1 20
    ∷ relocation 672 1025 2 0
    ∷ relocation 3 0 7 5
    ∷ (0xc9 ∷ 0x02 ∷ 0x01 ∷ 0x09 ∷ []) ∷ replicate 12 0 ∷ [])

-- what the relocations leave of the second PT_LOAD's file part
abbrev pub others : List ℕ
others = 1 ∷ 2 ∷ 3 ∷ 4 ∷ 5 ∷ 6 ∷ 7 ∷ 8 ∷ replicate 16 9

-- the second PT_LOAD, 656 to 720, writable, with a file part of 48 bytes. Word 0 is an end pointer: its place holds -16
abbrev pub sample : List ℕ
sample = joined (front ∷ bytes_of 8 (minus 16) ∷ bytes_of 8 0 ∷ bytes_of 8 0 ∷ others ∷ [])

-- ---- changed copies

-- a file with a number of so many bytes put at a position
abbrev pub with : List ℕ → ℕ → ℕ → ℕ → List ℕ
with file at bytes value = put file at (bytes_of bytes value)

-- where the module's parts stand: program header, dynamic entry, symbol, relocation, descriptor
abbrev pub header : ℕ → ℕ
header i = 64 + 56 * i

abbrev pub dynamic : ℕ → ℕ
dynamic i = 232 + 16 * i

abbrev pub symbol : ℕ → ℕ
symbol i = 408 + 24 * i

abbrev pub entry : ℕ → ℕ
entry i = 480 + 24 * i

abbrev pub descriptor : ℕ → ℕ
descriptor at = 576 + at
