-- The fields of a file by document 01's offsets, and its limits, each a second time.
-- Assumes nothing.
use Rattle.std.specs.Prelude.{ℕ, ◌+◌, ◌*◌, ◌/◌, ◌%◌, ◌^◌, ◌≤◌, ◌<◌, ◌≡◌, List, get_or, ℤ, pos, ◌+ℤ◌}
use Rattle.rules.specs.Bytes.{le}
use Rattle.rules.specs.Limits.{file_least, file_limit, memory_limit, header_limit, dynamic_limit, entry_limit, global_limit, address_limit, granule, page}
use Rattle.rules.specs.declared.Segment.{Segment}

-- little-endian throughout: v has n bytes, and its byte i, counted from the lowest, is the one that stands i bytes on
pub record LittleEndian (f : List ℕ) (n at v : ℕ) : Type 0 where
  pub fits : v < 256 ^ n
  pub bytes : (i : ℕ) → i < n → v / 256 ^ i % 256 ≡ get_or f (at + i) 0

-- a number of eight bytes read as two's complement: itself, or 2^64 less where it has bit 63
pub record TwosComplement (v : ℕ) (z : ℤ) : Type 0 where
  pub plain : v < 2 ^ 63 → z ≡ pos v
  pub below : 2 ^ 63 ≤ v → v < 2 ^ 64 → z +ℤ pos (2 ^ 64) ≡ pos v

-- the limits of document 01, file, memory, relocations and globals as request 5 has them
pub record Limited : Type 0 where
  pub file_least_holds : file_least ≡ 64
  pub file_most : file_limit ≡ 16777216
  pub memory_most : memory_limit ≡ 16777216
  pub headers_most : header_limit ≡ 16
  pub dynamic_most : dynamic_limit ≡ 4096
  pub entries_most : entry_limit ≡ 65536
  pub globals_most : global_limit ≡ 65536
  pub addresses_below : address_limit ≡ 281474976710656
  pub granule_bytes : granule ≡ 16
  pub page_bytes : page ≡ 4096

module _ (f : List ℕ) where
  -- Ehdr: how many program headers there are
  abbrev pub header_count : ℕ
  header_count = le 2 f 56

  -- Phdr, 56 bytes, that of index i: where it stands, and its fields
  abbrev pub phdr : ℕ → ℕ
  phdr i = le 8 f 32 + 56 * i

  abbrev pub type_at : ℕ → ℕ
  type_at i = le 4 f (phdr i)

  abbrev pub flags_at : ℕ → ℕ
  flags_at i = le 4 f (phdr i + 4)

  abbrev pub offset_at : ℕ → ℕ
  offset_at i = le 8 f (phdr i + 8)

  abbrev pub vaddr_at : ℕ → ℕ
  vaddr_at i = le 8 f (phdr i + 16)

  abbrev pub filesz_at : ℕ → ℕ
  filesz_at i = le 8 f (phdr i + 32)

  abbrev pub memsz_at : ℕ → ℕ
  memsz_at i = le 8 f (phdr i + 40)

  abbrev pub align_at : ℕ → ℕ
  align_at i = le 8 f (phdr i + 48)

  abbrev pub segment_at : ℕ → Segment
  segment_at i = record {
    kind = type_at i;
    flags = flags_at i;
    offset = offset_at i;
    vaddr = vaddr_at i;
    filesz = filesz_at i;
    memsz = memsz_at i;
    align = align_at i;
  }

  -- a dynamic entry, 16 bytes, that of index i of the table at x: tag and value
  abbrev pub entry_tag : ℕ → ℕ → ℕ
  entry_tag x i = le 8 f (x + 16 * i)

  abbrev pub entry_value : ℕ → ℕ → ℕ
  entry_value x i = le 8 f (x + 16 * i + 8)

  -- RELA, 24 bytes, the entry of index i of the table at x: place; info, its low 32 bits the kind, its high 32 bits the symbol; addend
  abbrev pub rela_place : ℕ → ℕ → ℕ
  rela_place x i = le 8 f (x + 24 * i)

  abbrev pub rela_info : ℕ → ℕ → ℕ
  rela_info x i = le 8 f (x + 24 * i + 8)

  abbrev pub rela_kind : ℕ → ℕ → ℕ
  rela_kind x i = rela_info x i % 2 ^ 32

  abbrev pub rela_symbol : ℕ → ℕ → ℕ
  rela_symbol x i = rela_info x i / 2 ^ 32

  abbrev pub rela_addend : ℕ → ℕ → ℕ
  rela_addend x i = le 8 f (x + 24 * i + 16)

  -- a symbol, 24 bytes, at x: info, its low four bits the type, its high four bits the binding; section; value
  abbrev pub symbol_info : ℕ → ℕ
  symbol_info x = get_or f (x + 4) 0

  abbrev pub symbol_type : ℕ → ℕ
  symbol_type x = symbol_info x % 16

  abbrev pub symbol_binding : ℕ → ℕ
  symbol_binding x = symbol_info x / 16

  abbrev pub symbol_section : ℕ → ℕ
  symbol_section x = le 2 f (x + 6)

  abbrev pub symbol_value : ℕ → ℕ
  symbol_value x = le 8 f (x + 8)
