-- Document 01's table of refusals, a row a number: which numbers a check gives, and at exactly which positions.
-- Assumes nothing.
use Rattle.std.specs.Prelude.{ℕ, zero, suc, ◌+◌, ◌*◌, ◌/◌, ◌%◌, ◌≤◌, ◌<◌, ◌≡◌, Bool, true, false, ◌||◌, List, [], ◌∷◌, ◌++◌, ◌⊎◌, length, eqb, Some, None}
use Rattle.rules.specs.Outcome.{Outcome, good, bad, refusal, Refusal}
use Rattle.rules.specs.Limits.{file_least, file_limit, entry_limit, global_limit, granule}
use Rattle.rules.specs.Bytes.{le}
use Rattle.rules.specs.Headers.{size_check, wrong_byte, identification_check, good_header, header_check}
use Rattle.rules.specs.Segments.{header_at, bad_load, loads_check, in_memory}
use Rattle.rules.specs.Dynamic.{is_dynamic_at, dynamic_in, dynamic_of, known_tags, bad_entry, partnerless, entries_check}
use Rattle.rules.specs.Tables.{table_backing, rela_address, rela_bytes, packed_address, packed_bytes, descriptor_address, descriptor_bytes}
use Rattle.rules.specs.Tables.{relocations_of, descriptors_of}
use Rattle.rules.specs.Packed.{packed_before, packed_of}
use Rattle.rules.specs.Descriptors.{global, step_at, table_start, descriptor_table, globals_of}
use Rattle.rules.specs.Relocations.{items, position_at, target_at, barred, bad_relocation, relocations_check}
use Rattle.rules.specs.Lending.{lending_fits, lending_check}
use Rattle.rules.specs.Addresses.{bad_address, addresses_check}
use Rattle.rules.specs.Choices.{bad_choice, choices_for}
use Rattle.rules.specs.declared.Headers.{Headers}
use Rattle.rules.specs.declared.Dynamic.{Dynamic}
use Rattle.rules.specs.declared.Known.{Known}
use Rattle.rules.specs.declared.Relocations.{Relocations}
use Rattle.rules.specs.declared.Descriptors.{Descriptors}
use Rattle.rules.specs.declared.Global.{Global}
use Rattle.rules.specs.declared.Cursor.{Cursor}
use Rattle.rules.specs.declared.Module.{Module}

-- ---- the numbers of each call; they need not be an interval

abbrev pub reader_numbers : List ℕ
reader_numbers = 1 ∷ 2 ∷ 3 ∷ 4 ∷ 5 ∷ 6 ∷ 7 ∷ 15 ∷ 8 ∷ 16 ∷ 9 ∷ []

abbrev pub examine_numbers : List ℕ
examine_numbers = reader_numbers ++ (10 ∷ 11 ∷ [])

abbrev pub load_numbers : List ℕ
load_numbers = examine_numbers ++ (12 ∷ 13 ∷ 14 ∷ [])

-- those of the walk over the descriptors
abbrev pub walk_numbers : List ℕ
walk_numbers = 8 ∷ 16 ∷ 9 ∷ []

-- positions are at most this: as many entries as there may be, and the words of a packed table that fills the file
abbrev pub position_limit : ℕ
position_limit = entry_limit + file_limit / 8

abbrev pub listed : List ℕ → ℕ → Bool
listed [] number = false
listed (x ∷ xs) number = eqb x number || listed xs number

-- ---- the fault with the lowest index

-- no fault from a on, before b
abbrev pub Clear : (ℕ → Bool) → ℕ → ℕ → Type 0
Clear fault a b = (i : ℕ) → a ≤ i → i < b → fault i ≡ false

-- i is the lowest index with a fault from a on, before b
pub record Lowest (fault : ℕ → Bool) (a b i : ℕ) : Type 0 where
  pub from : a ≤ i
  pub below : i < b
  pub faulty : fault i ≡ true
  pub lowest : Clear fault a i

-- the walk over the descriptors comes to index i with a cursor: each before it reads, and lies inside a PT_LOAD
pub record Turned (Before : Cursor → Type 0) (f : List ℕ) (h : Headers) (s : List ℕ) (i : ℕ) (c : Cursor) : Type 0 where
  pub cursor : Cursor
  pub before : Before cursor
  pub read : Global
  pub reads : step_at i s cursor ≡ good (global read c)
  pub inside : in_memory f h false read.start (granule * read.granules) ≡ true

abbrev pub Reaches : List ℕ → Headers → List ℕ → ℕ → Cursor → Type 0
Reaches f h s zero c = c ≡ table_start
Reaches f h s (suc i) c = Turned (Reaches f h s i) f h s i c

-- ---- the table: with which number and at which position a check refuses

-- no PT_DYNAMIC; else the second one; else a bad one
pub data DynamicFault (f : List ℕ) (h : Headers) (i : ℕ) : Type 0 where
  no_dynamic : Clear (is_dynamic_at f h) 0 h.count → i ≡ h.count → DynamicFault f h i
  second-dynamic : (j : ℕ) → Lowest (is_dynamic_at f h) 0 h.count j → Lowest (is_dynamic_at f h) (j + 1) h.count i → DynamicFault f h i
  bad_dynamic : Lowest (is_dynamic_at f h) 0 h.count i → Clear (is_dynamic_at f h) (i + 1) h.count
      → dynamic_in f h i (header_at f h i) ≡ bad (refusal 5 i) → DynamicFault f h i

-- the first entry that is bad or repeated; then a partner missing
pub data EntryFault (f : List ℕ) (d : Dynamic) (i : ℕ) : Type 0 where
  bad_entry_holds : Lowest (bad_entry known_tags f d) 0 d.entries i → EntryFault f d i
  no_partner : (k : ℕ) → Clear (bad_entry known_tags f d) 0 d.entries → k < length known_tags → partnerless known_tags f d k ≡ true
      → i ≡ d.entries → EntryFault f d i

-- the same by a table of known tags
pub data EntryFaultBy (known : List Known) (f : List ℕ) (d : Dynamic) (i : ℕ) : Type 0 where
  bad_entry_by : Lowest (bad_entry known f d) 0 d.entries i → EntryFaultBy known f d i
  no_partner_by : (k : ℕ) → Clear (bad_entry known f d) 0 d.entries → k < length known → partnerless known f d k ≡ true
      → i ≡ d.entries → EntryFaultBy known f d i

-- the packed table is not backed; else its first word is a bitmap; else entries and packed places are too many with the places of a
-- word, and were not before it
pub data PackedFault (f : List ℕ) (h : Headers) (d : Dynamic) (entries i : ℕ) : Type 0 where
  not_backed : table_backing f h (packed_address f d) (packed_bytes f d) ≡ None → i ≡ 0 → PackedFault f h d entries i
  bitmap_first : (at : ℕ) → table_backing f h (packed_address f d) (packed_bytes f d) ≡ Some at → 0 < packed_bytes f d / 8
      → le 8 f at % 2 ≡ 1 → i ≡ 0 → PackedFault f h d entries i
  too_many : (at : ℕ) → table_backing f h (packed_address f d) (packed_bytes f d) ≡ Some at → i < packed_bytes f d / 8
      → le 8 f at % 2 ≡ 0 → entries + length (packed_before f at i) ≤ entry_limit
      → entry_limit < entries + length (packed_before f at (i + 1)) → PackedFault f h d entries i

-- the first descriptor that a step refuses with a number
pub record Unread (f : List ℕ) (h : Headers) (s : List ℕ) (number i : ℕ) : Type 0 where
  pub cursor : Cursor
  pub counted : i < global_limit
  pub reached : Reaches f h s i cursor
  pub refused : step_at i s cursor ≡ bad (refusal number i)

-- or that ends too high, or whose global is outside every PT_LOAD; then bytes left over
pub data GlobalFault (f : List ℕ) (h : Headers) (s : List ℕ) (i : ℕ) : Type 0 where
  ends_high : Unread f h s 9 i → GlobalFault f h s i
  outside_loads : (c next : Cursor) (g : Global) → i < global_limit → Reaches f h s i c → step_at i s c ≡ good (global g next)
      → in_memory f h false g.start (granule * g.granules) ≡ false → GlobalFault f h s i
  left_over : (c : Cursor) → i ≡ global_limit → Reaches f h s i c → c.position < length s → GlobalFault f h s i

-- the position of the first item with a fault
pub record FirstAt (f : List ℕ) (m : Module) (fault : ℕ → Bool) (position : ℕ) : Type 0 where
  pub item : ℕ
  pub first : Lowest fault 0 (items m) item
  pub reported : position ≡ position_at f m item

-- an item's kind or symbol; else its place
pub record ItemAt (f : List ℕ) (m : Module) (kind : Bool) (position : ℕ) : Type 0 where
  pub at : FirstAt f m (bad_relocation f m) position
  pub by_kind : barred (target_at f m at.item) ≡ kind

-- a wrong number of choices; else the first bad choice
pub data ChoiceFault (gs : List Global) (choices : List ℕ) (i : ℕ) : Type 0 where
  wrong_number : (length choices ≡ length gs → ⊥) → i ≡ length gs → ChoiceFault gs choices i
  bad_choice_holds : length choices ≡ length gs → Lowest (bad_choice gs choices) 0 (length gs) i → ChoiceFault gs choices i

-- a row: of the numbers that a check gives it gives this one at exactly these positions
pub record Row {A : Type 0} (c : Outcome A) (gives : List ℕ) (number : ℕ) (At : ℕ → Type 0) : Type 0 where
  pub only : (r : Refusal) → c ≡ bad r → listed gives r.number ≡ true
  pub says : (i : ℕ) → c ≡ bad (refusal number i) → At i
  pub when : (i : ℕ) → At i → c ≡ bad (refusal number i)

-- 7 has two rows, as document 01 has two positions; 8, 16 and 9 come from one walk, 10 and 11 from another
pub record Table (f : List ℕ) : Type 0 where
  pub row_1 : Row (size_check f) (1 ∷ []) 1 (λ i. (i ≡ 0) × ((length f < file_least) ⊎ (file_limit < length f)))
  pub row_2 : Row (identification_check f) (2 ∷ []) 2 (Lowest (wrong_byte f) 0 7)
  pub row_3 : Row (header_check f) (3 ∷ []) 3 (λ i. (i ≡ 0)
      × (good_header (length f) (le 2 f 16) (le 2 f 18) (le 4 f 20) (le 2 f 54) (le 2 f 56) (le 8 f 32) ≡ false))
  pub row_4 : (h : Headers) → Row (loads_check f h) (4 ∷ []) 4 (Lowest (bad_load f h) 0 h.count)
  pub row_5 : (h : Headers) → Row (dynamic_of f h) (5 ∷ []) 5 (DynamicFault f h)
  pub row_6 : (d : Dynamic) → Row (entries_check known_tags f d) (6 ∷ []) 6 (EntryFault f d)
  pub row_7 : (h : Headers) (d : Dynamic) → Row (relocations_of f h d) (7 ∷ []) 7 (λ i. (i ≡ 0)
      × ((table_backing f h (rela_address f d) (rela_bytes f d) ≡ None) ⊎ (entry_limit < rela_bytes f d / 24)))
  pub row_7_descriptors : (h : Headers) (d : Dynamic) → Row (descriptors_of f h d) (7 ∷ []) 7 (λ i. (i ≡ 1)
      × (table_backing f h (descriptor_address f d) (descriptor_bytes f d) ≡ None))
  pub row_15 : (h : Headers) (d : Dynamic) (r : Relocations) → r.entries ≤ entry_limit
      → Row (packed_of f h d r) (15 ∷ []) 15 (PackedFault f h d r.entries)
  pub row_8 : (h : Headers) (t : Descriptors) → Row (globals_of f h t) walk_numbers 8 (Unread f h (descriptor_table f t) 8)
  pub row_16 : (h : Headers) (t : Descriptors) → Row (globals_of f h t) walk_numbers 16 (Unread f h (descriptor_table f t) 16)
  pub row_9 : (h : Headers) (t : Descriptors) → Row (globals_of f h t) walk_numbers 9 (GlobalFault f h (descriptor_table f t))
  pub row_10 : (m : Module) → Row (relocations_check f m) (10 ∷ 11 ∷ []) 10 (ItemAt f m true)
  pub row_11 : (m : Module) → Row (relocations_check f m) (10 ∷ 11 ∷ []) 11 (ItemAt f m false)
  pub row_12 : (m : Module) (bias n p : ℕ)
      → Row (lending_check f m bias n p) (12 ∷ []) 12 (λ i. (i ≡ 0) × (lending_fits f m bias n p ≡ false))
  pub row_13 : (m : Module) (bias : ℕ) → Row (addresses_check f m bias) (13 ∷ []) 13 (FirstAt f m (bad_address f m bias))
  pub row_14 : (gs : List Global) (choices : List ℕ) → Row (choices_for gs choices) (14 ∷ []) 14 (ChoiceFault gs choices)
