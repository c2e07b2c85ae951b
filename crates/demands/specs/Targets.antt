-- Document 01's sentences on what is relocated: where a module's tables stand, kinds, symbols and places, over the file's bytes.
-- Assumes nothing.
use Rattle.std.specs.Prelude.{ℕ, ◌+◌, ◌*◌, ◌<◌, ◌≡◌, List, ◌⊎◌, Option, Some, None}
use Rattle.std.specs.Int.{◌∣◌}
use Rattle.rules.specs.Bytes.{le}
use Rattle.rules.specs.Relocations.{place_at}
use Rattle.rules.specs.declared.Dynamic.{Dynamic}
use Rattle.rules.specs.declared.Module.{Module}
use Rattle.demands.specs.Fields.{rela_kind, rela_symbol, symbol_type, symbol_binding, symbol_section}
use Rattle.demands.specs.Parts.{Backed, TableAt, InMemory, Writable}
use Rattle.demands.specs.Entries.{FoundDynamic, Has, Lacks, Given}

-- ---- where the tables stand

-- the entries of two tags say address and bytes of a table that stands at x in the file
pub record TableBy (f : List ℕ) (d : Dynamic) (address_tag bytes_tag x n : ℕ) : Type 0 where
  pub address : ℕ
  pub address_said : Given f d address_tag address
  pub bytes_said : Given f d bytes_tag n
  pub stands : TableAt f address n x

-- the symbol table's address
pub data SymbolTable (f : List ℕ) (d : Dynamic) (symbols : Option ℕ) : Type 0 where
  no_symbols : Lacks f d 6 → symbols ≡ None → SymbolTable f d symbols
  symbols_at : (address : ℕ) → Has f d 6 address → symbols ≡ Some address → SymbolTable f d symbols

-- a module is read from the file so
pub record ReadFrom (f : List ℕ) (m : Module) : Type 0 where
  pub header_table : m.headers.table ≡ le 8 f 32
  pub header_count_holds : m.headers.count ≡ le 2 f 56
  pub dynamic-found : FoundDynamic f m.dynamic
  pub symbol_table : SymbolTable f m.dynamic m.symbols
  pub rela_table : TableBy f m.dynamic 7 8 m.relocations.at (24 * m.relocations.entries)
  pub packed_table : TableBy f m.dynamic 36 35 m.packed.at (8 * m.packed.words)
  pub descriptor_table_holds : TableBy f m.dynamic 0x7000000d 0x7000000f m.descriptors.at m.descriptors.bytes

module _ (f : List ℕ) (m : Module) where
  -- ---- check 10

  -- kind and symbol of RELA entry k
  abbrev pub kind_in : ℕ → ℕ
  kind_in k = rela_kind f m.relocations.at k

  abbrev pub symbol_in : ℕ → ℕ
  symbol_in k = rela_symbol f m.relocations.at k

  -- the entry of symbol n, 24 bytes, is backed, and stands at x in the file
  pub record SymbolAt (n x : ℕ) : Type 0 where
    pub table : ℕ
    pub table_said : Has f m.dynamic 6 table
    pub backed : Backed f (table + 24 * n) 24 x

  -- symbol n is allowed: its entry is backed; type not 6 and not 10; section below 0xff00, and not 0 unless the binding is weak
  pub record GoodSymbol (n : ℕ) : Type 0 where
    pub at : ℕ
    pub stands : SymbolAt n at
    pub not_tls : symbol_type f at ≡ 6 → ⊥
    pub not_ifunc : symbol_type f at ≡ 10 → ⊥
    pub ordinary : symbol_section f at < 0xff00
    pub defined_or_weak : symbol_section f at ≡ 0 → symbol_binding f at ≡ 2

  -- entry k is allowed: RELATIVE has symbol 0; ABS64 and GLOB_DAT another, which is allowed
  pub data GoodKind (k : ℕ) : Type 0 where
    by_base : kind_in k ≡ 1027 → symbol_in k ≡ 0 → GoodKind k
    by-symbol : (kind_in k ≡ 257) ⊎ (kind_in k ≡ 1025) → (symbol_in k ≡ 0 → ⊥) → GoodSymbol (symbol_in k) → GoodKind k

  -- item k is allowed: a packed place has neither kind nor symbol
  abbrev pub AllowedItem : ℕ → Type 0
  AllowedItem k = k < m.relocations.entries → GoodKind k

  -- ---- check 11

  -- an entry of kind 0 is skipped unread
  pub record Skipped (k : ℕ) : Type 0 where
    pub entry : k < m.relocations.entries
    pub kind_zero : kind_in k ≡ 0

  -- the place of item k: a multiple of 8, its eight bytes inside the memory part of one writable PT_LOAD, not the place of an earlier item
  -- not skipped
  pub record GoodPlace (k : ℕ) : Type 0 where
    pub multiple : 8 ∣ place_at f m k
    pub header : ℕ
    pub inside : InMemory f (place_at f m k) 8 header
    pub writable : Writable f header
    pub apart : (j : ℕ) → j < k → (Skipped j → ⊥) → place_at f m j ≡ place_at f m k → ⊥

  -- item k passes 10 and 11: it is skipped, or allowed and its place is good
  abbrev pub GoodItem : ℕ → Type 0
  GoodItem k = Skipped k ⊎ (AllowedItem k × GoodPlace k)
