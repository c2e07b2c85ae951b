-- The limits of document 01, each by name; file, memory, relocations and globals as document 02's request 5 has them.
-- Assumes nothing.
use Rattle.std.specs.Prelude.{ℕ, ◌^◌}

-- the shortest and the longest file (check 1)
abbrev pub file_least : ℕ
file_least = 64

abbrev pub file_limit : ℕ
file_limit = 16777216

-- the end of memory (checks 4 and 12)
abbrev pub memory_limit : ℕ
memory_limit = 16777216

-- program headers (check 3)
abbrev pub header_limit : ℕ
header_limit = 16

-- bytes of PT_DYNAMIC (check 5)
abbrev pub dynamic_limit : ℕ
dynamic_limit = 4096

-- relocation entries (check 7); entries and packed places together (check 15)
abbrev pub entry_limit : ℕ
entry_limit = 65536

-- descriptors (check 9)
abbrev pub global_limit : ℕ
global_limit = 65536

-- addresses (checks 9, 12 and 13)
abbrev pub address_limit : ℕ
address_limit = 2 ^ 48

-- bytes of a granule
abbrev pub granule : ℕ
granule = 16

-- the bias is a multiple of this (check 12)
abbrev pub page : ℕ
page = 4096
