-- Each test of the rules that a check rests on holds exactly when a sentence of document 01 does: what is refused, and what is not.
-- Assumes nothing.
use Rattle.std.specs.Prelude.{ℕ, ◌+◌, ◌≤◌, ◌<◌, ◌≡◌, Bool, true, false, List, [], ◌∷◌, ◌↔◌, length, get_or, Some}
use Rattle.rules.specs.Outcome.{good}
use Rattle.rules.specs.Checks.{Check}
use Rattle.rules.specs.Bytes.{le}
use Rattle.rules.specs.Headers.{wrong_byte, header_check, the_headers, headers_of}
use Rattle.rules.specs.Segments.{header_at, bad_load, loads_check, backing_of, in_memory}
use Rattle.rules.specs.Dynamic.{base_tags, known_tags, is_dynamic_at, dynamic_of, bad_entry, entries_check}
use Rattle.rules.specs.Tables.{table_backing, rela_address, rela_bytes, packed_address, packed_bytes, descriptor_address, descriptor_bytes}
use Rattle.rules.specs.Relocations.{place_at, addend_at, live, position_at, target_at, barred, good_place, bad_relocation}
use Rattle.rules.specs.Choices.{globals_in, global_at, end_of}
use Rattle.rules.specs.Reader.{module_of}
use Rattle.rules.specs.declared.Dynamic.{Dynamic}
use Rattle.rules.specs.declared.Global.{Global}
use Rattle.rules.specs.declared.Module.{Module}
use Rattle.demands.specs.Writer.{Bytes}
use Rattle.demands.specs.Fields.{LittleEndian, type_at, segment_at, rela_place, rela_addend}
use Rattle.demands.specs.Parts.{GoodHeader, GoodLoad, Backed, TableAt, InMemory}
use Rattle.demands.specs.Entries.{FoundDynamic, GoodEntry, GoodElfEntry, ElfPartners, MemtagPartners, Given}
use Rattle.demands.specs.Targets.{ReadFrom, AllowedItem, Skipped, GoodPlace, GoodItem}

-- a test holds exactly when P does; a test for a fault finds none exactly when P holds; a check passes exactly then
abbrev pub Means : Bool → Type 0 → Type 0
Means test P = (test ≡ true) ↔ P

abbrev pub Clears : Bool → Type 0 → Type 0
Clears fault P = (fault ≡ false) ↔ P

abbrev pub Admits : Check → Type 0 → Type 0
Admits check P = (check ≡ good tt) ↔ P

-- the first seven bytes of a file
abbrev pub first_seven : List ℕ
first_seven = 0x7f ∷ 0x45 ∷ 0x4c ∷ 0x46 ∷ 0x02 ∷ 0x01 ∷ 0x01 ∷ []

-- a choice is 1 to 15, and differs from the one before when the two globals abut
pub record GoodChoice (gs : List Global) (choices : List ℕ) (i : ℕ) : Type 0 where
  pub least : 1 ≤ get_or choices i 0
  pub most : get_or choices i 0 ≤ 15
  pub differs : (j : ℕ) → i ≡ j + 1 → end_of (global_at gs j) ≡ (global_at gs i).start → get_or choices j 0 ≡ get_or choices i 0 → ⊥

-- address and bytes of each table are the values of its tags
pub record TableTags (f : List ℕ) (d : Dynamic) : Type 0 where
  pub rela_address_holds : Given f d 7 (rela_address f d)
  pub rela_bytes_holds : Given f d 8 (rela_bytes f d)
  pub packed_address_holds : Given f d 36 (packed_address f d)
  pub packed_bytes_holds : Given f d 35 (packed_bytes f d)
  pub descriptor_address_holds : Given f d 0x7000000d (descriptor_address f d)
  pub descriptor_bytes_holds : Given f d 0x7000000f (descriptor_bytes f d)

module _ (f : List ℕ) where
  -- of any file
  pub record FileSentences : Type 0 where
    pub numbers : (n at : ℕ) → Bytes f → LittleEndian f n at (le n f at)
    pub identified : (i : ℕ) → i < 7 → Clears (wrong_byte f i) (get_or f i 0 ≡ get_or first_seven i 0)
    pub header : Admits (header_check f) (GoodHeader f)
    pub program_header_holds : (i : ℕ) → header_at f (the_headers f) i ≡ segment_at f i
    pub loads : (i : ℕ) → Bytes f → Clears (bad_load f (the_headers f) i) (type_at f i ≡ 1 → GoodLoad f i)
    pub in_memory_holds : (a n : ℕ) → Means (in_memory f (the_headers f) false a n) ((i : ℕ) × InMemory f a n i)
    pub dynamic_type : (i : ℕ) → Means (is_dynamic_at f (the_headers f) i) (type_at f i ≡ 2)
    pub entry : (d : Dynamic) (i : ℕ) → Clears (bad_entry known_tags f d i) (GoodEntry f d i)
    pub elf_entry : (d : Dynamic) (i : ℕ) → Clears (bad_entry base_tags f d i) (GoodElfEntry f d i)
    pub entries : (d : Dynamic) → Admits (entries_check known_tags f d)
        (((i : ℕ) → i < d.entries → GoodEntry f d i) × ElfPartners f d × MemtagPartners f d)
    pub elf_entries : (d : Dynamic) → Admits (entries_check base_tags f d)
        (((i : ℕ) → i < d.entries → GoodElfEntry f d i) × ElfPartners f d)
    pub tables : (d : Dynamic) → TableTags f d

  -- of one whose headers and PT_LOADs are good: what is backed, and the dynamic table
  pub record PartSentences : Type 0 where
    pub backing : (a n x : ℕ) → 0 < n → (backing_of f (the_headers f) a n ≡ Some x) ↔ Backed f a n x
    pub table : (a n x : ℕ) → (table_backing f (the_headers f) a n ≡ Some x) ↔ TableAt f a n x
    pub dynamic : (d : Dynamic) → (dynamic_of f (the_headers f) ≡ good d) ↔ FoundDynamic f d

  -- of the items of a module that is read
  pub record ItemSentences (m : Module) : Type 0 where
    pub read_from : ReadFrom f m
    pub place_read : (k : ℕ) → k < m.relocations.entries → place_at f m k ≡ rela_place f m.relocations.at k
    pub addend_read : (k : ℕ) → k < m.relocations.entries → addend_at f m k ≡ rela_addend f m.relocations.at k
    pub position_read : (k : ℕ) → k < m.relocations.entries → position_at f m k ≡ k
    pub skipped : (k : ℕ) → Bytes f → Clears (live f m k) (Skipped f m k)
    pub kind : (k : ℕ) → Bytes f → Clears (barred (target_at f m k)) (AllowedItem f m k)
    pub place : (k : ℕ) → Bytes f → Means (good_place f m k) (GoodPlace f m k)
    pub item : (k : ℕ) → Bytes f → Clears (bad_relocation f m k) (GoodItem f m k)
    pub globals : m.globals ≡ length (globals_in f m)

  pub record Sentences : Type 0 where
    pub of_file : FileSentences
    pub of_parts : headers_of f ≡ good (the_headers f) → loads_check f (the_headers f) ≡ good tt → PartSentences
    pub of_items : (m : Module) → module_of f ≡ good m → ItemSentences m
