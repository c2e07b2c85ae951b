-- Document 01's sentences on PT_DYNAMIC and the dynamic entries, over the file's bytes, with the packed tags of document 02's request 3.
-- Assumes nothing.
use Rattle.std.specs.Prelude.{ℕ, ◌*◌, ◌≤◌, ◌<◌, ◌≡◌, true, List, [], ◌∷◌, ◌++◌, ◌⊎◌, ◌↔◌}
use Rattle.std.specs.Int.{◌∣◌}
use Rattle.rules.specs.declared.Dynamic.{Dynamic}
use Rattle.demands.specs.Fields.{header_count, type_at, vaddr_at, filesz_at, entry_tag, entry_value}
use Rattle.demands.specs.Parts.{Backed}
use Rattle.demands.specs.Table.{listed}

-- ---- check 5

-- header i, a PT_DYNAMIC, is good: its vaddr with filesz is backed, and its contents are those there; filesz is a multiple of 16 from 16 to
-- 4,096; entry n has tag 0, and none before it does
pub record GoodDynamic (f : List ℕ) (i : ℕ) (d : Dynamic) : Type 0 where
  pub contents : Backed f (vaddr_at f i) (filesz_at f i) d.at
  pub whole : 16 ∣ filesz_at f i
  pub least : 16 ≤ filesz_at f i
  pub most : filesz_at f i ≤ 4096
  pub null_inside : 16 * d.entries < filesz_at f i
  pub null : entry_tag f d.at d.entries ≡ 0
  pub first_null : (j : ℕ) → j < d.entries → entry_tag f d.at j ≡ 0 → ⊥

-- one PT_DYNAMIC, and a good one
pub record FoundDynamic (f : List ℕ) (d : Dynamic) : Type 0 where
  pub header : ℕ
  pub listed : header < header_count f
  pub dynamic : type_at f header ≡ 2
  pub only : (j : ℕ) → j < header_count f → type_at f j ≡ 2 → j ≡ header
  pub good : GoodDynamic f header d

-- ---- check 6

-- the tags that we know, of ELF64 and of the Memtag ABI
abbrev pub elf_tags : List ℕ
elf_tags = 6 ∷ 11 ∷ 7 ∷ 8 ∷ 9 ∷ 17 ∷ 23 ∷ 36 ∷ 35 ∷ 37 ∷ []

abbrev pub memtag_tags : List ℕ
memtag_tags = 0x70000009 ∷ 0x7000000b ∷ 0x7000000c ∷ 0x7000000d ∷ 0x7000000f ∷ []

-- the values that a tag of ELF64 allows; 17 and 23 are bad entries, and a tag that does not stand here allows any
pub record ElfAllows (tag value : ℕ) : Type 0 where
  pub syment : tag ≡ 11 → value ≡ 24
  pub relasz : tag ≡ 8 → 24 ∣ value
  pub relaent : tag ≡ 9 → value ≡ 24
  pub relrsz : tag ≡ 35 → 8 ∣ value
  pub relrent : tag ≡ 37 → value ≡ 8
  pub no_rel : tag ≡ 17 → ⊥
  pub no_jmprel : tag ≡ 23 → ⊥

-- and of the Memtag ABI: mode, heap and stack are 0 or 1
pub record MemtagAllows (tag value : ℕ) : Type 0 where
  pub mode : tag ≡ 0x70000009 → (value ≡ 0) ⊎ (value ≡ 1)
  pub heap : tag ≡ 0x7000000b → (value ≡ 0) ⊎ (value ≡ 1)
  pub stack : tag ≡ 0x7000000c → (value ≡ 0) ⊎ (value ≡ 1)

module _ (f : List ℕ) (d : Dynamic) where
  -- a known tag stands once: none of the entries before i has the tag of entry i
  abbrev pub Once : List ℕ → ℕ → Type 0
  Once known i = listed known (entry_tag f d.at i) ≡ true → (j : ℕ) → j < i → entry_tag f d.at j ≡ entry_tag f d.at i → ⊥

  -- entry i is good; all other tags are passed over
  pub record GoodEntry (i : ℕ) : Type 0 where
    pub elf_value : ElfAllows (entry_tag f d.at i) (entry_value f d.at i)
    pub memtag_value : MemtagAllows (entry_tag f d.at i) (entry_value f d.at i)
    pub once : Once (elf_tags ++ memtag_tags) i

  -- and to one who does not know the Memtag ABI
  pub record GoodElfEntry (i : ℕ) : Type 0 where
    pub elf_value : ElfAllows (entry_tag f d.at i) (entry_value f d.at i)
    pub once : Once elf_tags i

  -- an entry before the first DT_NULL has a tag and a value; or no entry has the tag
  pub record Has (tag value : ℕ) : Type 0 where
    pub entry : ℕ
    pub before_null : entry < d.entries
    pub tagged : entry_tag f d.at entry ≡ tag
    pub valued : entry_value f d.at entry ≡ value

  abbrev pub Lacks : ℕ → Type 0
  Lacks tag = (i : ℕ) → i < d.entries → entry_tag f d.at i ≡ tag → ⊥

  -- the value of a tag, 0 where no entry has it: an absent table has 0 bytes
  abbrev pub Given : ℕ → ℕ → Type 0
  Given tag value = Has tag value ⊎ (Lacks tag × (value ≡ 0))

  -- two tags are partners: both are there, or neither
  abbrev pub Partners : ℕ → ℕ → Type 0
  Partners a b = ((value : ℕ) × Has a value) ↔ ((value : ℕ) × Has b value)

  -- tags sharing a row are partners: all of them or none
  pub record ElfPartners : Type 0 where
    pub symbols : Partners 6 11
    pub rela_bytes_holds : Partners 7 8
    pub rela-entry : Partners 7 9
    pub packed_bytes_holds : Partners 36 35
    pub packed-entry : Partners 36 37

  abbrev pub MemtagPartners : Type 0
  MemtagPartners = Partners 0x7000000d 0x7000000f
