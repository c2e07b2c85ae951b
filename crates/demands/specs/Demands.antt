-- The three demands on the load, stated of the rules of document 01.
-- Assumes nothing.
use Rattle.std.specs.Prelude.{ℕ, ◌+◌, ◌*◌, ◌-◌, ◌/◌, ◌%◌, ◌^◌, ◌≤◌, ◌<◌, ◌≡◌, true, ◌&&◌, List, ◌⊎◌, length, get_or, Some}
use Rattle.rules.specs.Outcome.{Outcome, good, bad, Refusal}
use Rattle.rules.specs.Checks.{Check, All, First}
use Rattle.rules.specs.Limits.{entry_limit, global_limit, granule}
use Rattle.rules.specs.Bytes.{le}
use Rattle.rules.specs.Headers.{headers_of}
use Rattle.rules.specs.Segments.{header_at, is_load, loads_check, covers, backs_at, backing_of}
use Rattle.rules.specs.Reader.{the_dynamic, the_module, reader_checks, module_of}
use Rattle.rules.specs.Relocations.{place_at, live, items, symbol_backing, target_at}
use Rattle.rules.specs.Examine.{facts_of, examine_checks, examined_of}
use Rattle.rules.specs.Choices.{globals_in, global_at, end_of}
use Rattle.rules.specs.Image.{image_of, loaded_at}
use Rattle.rules.specs.Words.{Source, none, at, source_at, tag_of, word_at}
use Rattle.rules.specs.Load.{Loaded, load_checks, load_of, loaded, memory_after, plane_after}
use Rattle.rules.specs.declared.Headers.{Headers}
use Rattle.rules.specs.declared.Segment.{Segment}
use Rattle.rules.specs.declared.Global.{Global}
use Rattle.rules.specs.declared.Module.{Module}
use Rattle.rules.specs.declared.Facts.{Facts}
use Rattle.rules.specs.declared.Target.TheVariants.{Undefined}
use Rattle.demands.specs.Plain.{plain_module, plain_checks, plain_memory, plain_of}
use Rattle.demands.specs.Packed.{IsPacked, Packs}
use Rattle.demands.specs.Writer.{Bytes}
use Rattle.demands.specs.Fields.{rela_addend, symbol_section, symbol_value}
use Rattle.demands.specs.Targets.{kind_in, symbol_in, SymbolAt}
use Rattle.demands.specs.Lending.{Lends, InStep}
use Rattle.demands.specs.Order.{InOrder, reader_order, examine_order, load_order, plain_order}
use Rattle.demands.specs.PlainRefuses.{PlainRefuses}
use Rattle.demands.specs.Facts.{Flags, Counts}
use Rattle.demands.specs.Table.{reader_numbers, examine_numbers, load_numbers, listed, position_limit}

-- ---- demand 1: one outcome or the other, and a refusal changes nothing

-- a refusal with a number of a list, and a position that goes into 64 bits beside it
pub record Numbered (numbers : List ℕ) (r : Refusal) : Type 0 where
  pub number_listed : listed numbers r.number ≡ true
  pub position_most : r.position ≤ position_limit

-- facts with counts within the limits
pub record Counted (a : Facts) : Type 0 where
  pub globals_most : a.globals ≤ global_limit
  pub words_most : a.words ≤ entry_limit

-- the reader and examine, each with its numbers; the facts' flags are what the entries say, its counts what the tables list
pub record Examines (f : List ℕ) : Type 0 where
  pub module_refusal : (r : Refusal) → module_of f ≡ bad r → Numbered reader_numbers r
  pub examined_refusal : (r : Refusal) → examined_of f ≡ bad r → Numbered examine_numbers r
  pub examined_facts : (a : Facts) → examined_of f ≡ good a → Counted a
  pub examined_flags : (a : Facts) → examined_of f ≡ good a → Flags f (the_dynamic f) a
  pub examined_counts : (a : Facts) → examined_of f ≡ good a → Counts f (the_module f) a

-- a load is taken or refused; a refusal has a number of the list, and leaves memory and plane as lent
pub record Answers (f : List ℕ) (bias n p : ℕ) (choices : List ℕ) : Type 0 where
  pub either : ((l : Loaded) × (load_of f bias n p choices ≡ good l)) ⊎ ((r : Refusal) × (load_of f bias n p choices ≡ bad r))
  pub load_refusal : (r : Refusal) → load_of f bias n p choices ≡ bad r → Numbered load_numbers r
  pub load_facts : (l : Loaded) → load_of f bias n p choices ≡ good l → Counted l.facts
  pub memory_kept : (r : Refusal) (lent : List ℕ) → load_of f bias n p choices ≡ bad r → memory_after (load_of f bias n p choices) lent ≡ lent
  pub plane-kept : (r : Refusal) (lent : List ℕ) → load_of f bias n p choices ≡ bad r → plane_after (load_of f bias n p choices) lent ≡ lent

-- ---- demand 2: which loads are taken, and what they leave

-- an outcome is good exactly when every check of a list passes, and then it is a; it is a refusal exactly when that is the
-- refusal of the first check that does not pass
pub record Exactly {A : Type 0} (o : Outcome A) (checks : List Check) (a : A) : Type 0 where
  pub taken_if : All checks → o ≡ good a
  pub taken_only_if : (b : A) → o ≡ good b → All checks × (b ≡ a)
  pub refused_if : (r : Refusal) → First checks r → o ≡ bad r
  pub refused_only_if : (r : Refusal) → o ≡ bad r → First checks r

-- each call's list of checks is in document 01's order
pub record Ordered (f : List ℕ) (bias n p : ℕ) (choices : List ℕ) : Type 0 where
  pub reader : InOrder (reader_checks f) reader_order
  pub examine : InOrder (examine_checks f) examine_order
  pub load : InOrder (load_checks f bias n p choices) load_order
  pub plain : InOrder (plain_checks f (plain_module f) bias n) plain_order

-- examine answers what the load answers, up to its own last check
pub record SameFacts (f : List ℕ) (bias n p : ℕ) (choices : List ℕ) : Type 0 where
  pub facts_examined : (l : Loaded) → load_of f bias n p choices ≡ good l → examined_of f ≡ good l.facts
  pub refusal_examined : (r : Refusal) → examined_of f ≡ bad r → load_of f bias n p choices ≡ bad r

-- item k is there and is not skipped: it relocates a word
pub record Relocates (f : List ℕ) (m : Module) (k : ℕ) : Type 0 where
  pub listed : k < items m
  pub unskipped : live f m k ≡ true

-- a word's place, and the place of its top byte
abbrev pub word_place : List ℕ → Module → ℕ → ℕ
word_place f m k = place_at f m k

abbrev pub top_place : List ℕ → Module → ℕ → ℕ
top_place f m k = word_place f m k + 7

-- granule x is one of a global's
pub record Within (g : Global) (x : ℕ) : Type 0 where
  pub first-granule : g.start / granule ≤ x
  pub last_granule : x < g.start / granule + g.granules

-- granule x is in no global
abbrev pub Undescribed : List Global → ℕ → Type 0
Undescribed gs x = (j : ℕ) → j < length gs → Within (global_at gs j) x → ⊥

-- byte x is in the file part of a PT_LOAD
pub record FilePart (s : Segment) (x : ℕ) : Type 0 where
  pub loads : is_load s ≡ true
  pub first_byte : s.vaddr ≤ x
  pub last_byte : x < s.vaddr + s.filesz

-- the globals: whole granules inside memory, one after the other
pub record Globals (gs : List Global) (n : ℕ) : Type 0 where
  pub whole : (j : ℕ) → j < length gs → (global_at gs j).start % granule ≡ 0
  pub filled : (j : ℕ) → j < length gs → 1 ≤ (global_at gs j).granules
  pub inside : (j : ℕ) → j < length gs → end_of (global_at gs j) ≤ n
  pub in_order : (i j : ℕ) → i < j → j < length gs → end_of (global_at gs i) ≤ (global_at gs j).start

-- the plane: each global's granules hold its choice, all others 0
pub record Plane (gs : List Global) (choices : List ℕ) (p : ℕ) (plane : List ℕ) : Type 0 where
  pub plane-length : length plane ≡ p
  pub described : (j x : ℕ) → j < length gs → Within (global_at gs j) x → get_or plane x 0 ≡ get_or choices j 0
  pub undescribed : (x : ℕ) → x < p → Undescribed gs x → get_or plane x 0 ≡ 0

-- memory before relocation: each PT_LOAD's file part, all others 0; *P, which the rules read from the file, is what it holds
pub record Image (f : List ℕ) (m : Module) (n : ℕ) (image : List ℕ) : Type 0 where
  pub image_length : length image ≡ n
  pub from_file : (i x : ℕ) → i < m.headers.count → FilePart (header_at f m.headers i) x
      → get_or image x 0 ≡ get_or f ((header_at f m.headers i).offset + (x - (header_at f m.headers i).vaddr)) 0
  pub all_others : (x : ℕ) → ((i : ℕ) → i < m.headers.count → FilePart (header_at f m.headers i) x → ⊥) → get_or image x 0 ≡ 0
  pub loaded_words : (x : ℕ) → le 8 image x ≡ loaded_at f m.headers x

-- a packed place's address: the bias and the eight bytes that the image holds there, unsigned
abbrev pub held_address : List ℕ → ℕ → Module → List ℕ → ℕ → ℕ
held_address f bias m image k = bias + le 8 image (word_place f m k)

-- memory: each relocated word in its own eight bytes, that of a packed place its address with the tag at that address; and the
-- image's bytes in no relocated word
pub record Memory (f : List ℕ) (bias n : ℕ) (m : Module) (image plane memory : List ℕ) : Type 0 where
  pub memory-length : length memory ≡ n
  pub word_inside : (k : ℕ) → Relocates f m k → word_place f m k + 8 ≤ n
  pub words_apart : (j k : ℕ) → j < k → Relocates f m j → Relocates f m k
      → (word_place f m j + 8 ≤ word_place f m k) ⊎ (word_place f m k + 8 ≤ word_place f m j)
  pub words : (k : ℕ) → Relocates f m k
      → le 8 memory (word_place f m k) ≡ word_at f m bias n plane k
  pub packed_words : (k : ℕ) → IsPacked m k
      → le 8 memory (word_place f m k) ≡ held_address f bias m image k + 2 ^ 56 * tag_of plane bias n (at (held_address f bias m image k))
  pub other_bytes : (x : ℕ) → ((k : ℕ) → Relocates f m k → word_place f m k ≤ x → x < word_place f m k + 8 → ⊥)
      → get_or memory x 0 ≡ get_or image x 0

-- what a load of module m leaves
pub record Leaves (f : List ℕ) (bias n p : ℕ) (choices : List ℕ) (m : Module) (l : Loaded) : Type 0 where
  pub the_facts : l.facts ≡ facts_of f m
  pub in_step : InStep f m.headers bias
  pub the_globals : Globals (globals_in f m) n
  pub the_plane : Plane (globals_in f m) choices p l.plane
  pub the_image : Image f m n (image_of f m.headers n)
  pub the_memory : Memory f bias n m (image_of f m.headers n) l.plane l.memory

-- the rules ask a little more than document 01 where bytes are backed and where a symbol is; after checks 1 to 4 that asks
-- nothing: backed is inside the file part of one PT_LOAD, and a symbol's entry is where it is backed
pub record Idle (f : List ℕ) (h : Headers) : Type 0 where
  pub backed : (a n i : ℕ) → i < h.count
      → backs_at f h a n i ≡ (is_load (header_at f h i) && covers (header_at f h i).vaddr (header_at f h i).filesz a n)
  pub symbol-backed : (n table : ℕ) → symbol_backing f h n (Some table) ≡ backing_of f h (table + 24 * n) 24

-- ---- demand 3: against the plain loader

-- a global holds the run-time addresses from bias + its start to just before bias + its end
abbrev pub Holds : ℕ → Global → Source → Type 0
Holds bias g none = ⊥
Holds bias g (at s) = (bias + g.start ≤ s) × (s < bias + end_of g)

-- the column Tag source of the table of kinds, where image is memory before relocation: of kind 1027 a sum of unsigned words; of the other
-- two with a symbol that stands at x in the file; of a weak undefined symbol, whose section is 0; and that of a packed place, its address
pub data Sourced (f : List ℕ) (bias : ℕ) (m : Module) (image : List ℕ) (k : ℕ) (s : Source) : Type 0 where
  relative : k < m.relocations.entries → kind_in f m k ≡ 1027
      → s ≡ at ((bias + rela_addend f m.relocations.at k + le 8 image (word_place f m k)) % 2 ^ 64) → Sourced f bias m image k s
  defined : (x : ℕ) → k < m.relocations.entries → (kind_in f m k ≡ 257) ⊎ (kind_in f m k ≡ 1025)
      → SymbolAt f m (symbol_in f m k) x → 0 < symbol_section f x → s ≡ at (bias + symbol_value f x) → Sourced f bias m image k s
  undefined : (x : ℕ) → k < m.relocations.entries → (kind_in f m k ≡ 257) ⊎ (kind_in f m k ≡ 1025)
      → SymbolAt f m (symbol_in f m k) x → symbol_section f x ≡ 0 → s ≡ none → Sourced f bias m image k s
  packed : IsPacked m k → s ≡ at (held_address f bias m image k) → Sourced f bias m image k s

-- one ends where the other starts
abbrev pub Abut : Global → Global → Type 0
Abut a b = (end_of a ≡ b.start) ⊎ (end_of b ≡ a.start)

-- byte x is the top byte of no relocated word
abbrev pub NoTop : List ℕ → Module → ℕ → Type 0
NoTop f m x = (k : ℕ) → Relocates f m k → x ≡ top_place f m k → ⊥

-- a plain memory and a tagged one agree but for the top bytes of relocated words: 0 in one, in the other the tag of
-- the global that holds the word's source, or 0; a weak undefined symbol's word has no tag wherever memory lies
pub record Agrees (f : List ℕ) (bias n : ℕ) (choices : List ℕ) (m : Module) (plain memory : List ℕ) : Type 0 where
  pub same_length : length plain ≡ length memory
  pub others : (x : ℕ) → NoTop f m x → get_or plain x 0 ≡ get_or memory x 0
  pub bare : (k : ℕ) → Relocates f m k → get_or plain (top_place f m k) 0 ≡ 0
  pub held : (k j : ℕ) → Relocates f m k → j < length (globals_in f m) → Holds bias (global_at (globals_in f m) j) (source_at f m bias k)
      → get_or memory (top_place f m k) 0 ≡ get_or choices j 0
  pub unheld : (k : ℕ) → Relocates f m k
      → ((j : ℕ) → j < length (globals_in f m) → Holds bias (global_at (globals_in f m) j) (source_at f m bias k) → ⊥)
      → get_or memory (top_place f m k) 0 ≡ 0
  pub weak : (k : ℕ) → Relocates f m k → target_at f m k ≡ Undefined
      → get_or memory (top_place f m k) 0 ≡ 0

-- the plain loader takes what the load takes
pub record Plain (f : List ℕ) (bias n : ℕ) (choices : List ℕ) (m : Module) (memory : List ℕ) : Type 0 where
  pub plain : List ℕ
  pub takes : plain_of f bias n ≡ good plain
  pub agrees : Agrees f bias n choices m plain memory

-- a relocated word whose source lies in global j matches its granules, and no granule of a global that abuts it,
-- and no undescribed granule
pub record Matches (f : List ℕ) (bias n p : ℕ) (m : Module) (l : Loaded) (k j : ℕ) : Type 0 where
  pub own : (x : ℕ) → Within (global_at (globals_in f m) j) x → get_or l.memory (top_place f m k) 0 ≡ get_or l.plane x 0
  pub abutting : (i x : ℕ) → i < length (globals_in f m) → Abut (global_at (globals_in f m) i) (global_at (globals_in f m) j)
      → Within (global_at (globals_in f m) i) x → get_or l.memory (top_place f m k) 0 ≡ get_or l.plane x 0 → ⊥
  pub outside : (x : ℕ) → x < p → Undescribed (globals_in f m) x → get_or l.memory (top_place f m k) 0 ≡ get_or l.plane x 0 → ⊥

-- two loads of one module that differ in the choices
pub record Alike (f : List ℕ) (p : ℕ) (m : Module) (l other : Loaded) : Type 0 where
  pub same_facts : other.facts ≡ l.facts
  pub plane-length : length other.plane ≡ length l.plane
  pub memory-length : length other.memory ≡ length l.memory
  pub same_plane : (x : ℕ) → x < p → Undescribed (globals_in f m) x → get_or other.plane x 0 ≡ get_or l.plane x 0
  pub same_memory : (x : ℕ) → NoTop f m x → get_or other.memory x 0 ≡ get_or l.memory x 0

-- with other choices the load is refused by check 14, or leaves the same but for the tags
pub data Rechosen (f : List ℕ) (p : ℕ) (m : Module) (l : Loaded) (o : Outcome Loaded) : Type 0 where
  refused_again : (r : Refusal) → o ≡ bad r → r.number ≡ 14 → Rechosen f p m l o
  taken_again : (other : Loaded) → o ≡ good other → Alike f p m l other → Rechosen f p m l o

-- a load's tags: each word's source; against the plain loader, against its own plane, and with other choices
pub record Tags (f : List ℕ) (bias n p : ℕ) (choices : List ℕ) (m : Module) (l : Loaded) : Type 0 where
  pub packed_sources : (k : ℕ) → IsPacked m k → source_at f m bias k ≡ at (held_address f bias m (image_of f m.headers n) k)
  pub sources : (k : ℕ) → Bytes f → Relocates f m k → Sourced f bias m (image_of f m.headers n) k (source_at f m bias k)
  pub against_plain : Plain f bias n choices m l.memory
  pub matches : (k j : ℕ) → Relocates f m k → j < length (globals_in f m) → Holds bias (global_at (globals_in f m) j) (source_at f m bias k)
      → Matches f bias n p m l k j
  pub rechosen : (choices' : List ℕ) → Rechosen f p m l (load_of f bias n p choices')

-- ---- the demands

-- of a file, a bias, the lengths of memory and plane, and the choices
pub record Demands (f : List ℕ) (bias n p : ℕ) (choices : List ℕ) : Type 0 where
  pub examines : Examines f
  pub answers : Answers f bias n p choices
  pub reader : Exactly (module_of f) (reader_checks f) (the_module f)
  pub examine : Exactly (examined_of f) (examine_checks f) (facts_of f (the_module f))
  pub load : Exactly (load_of f bias n p choices) (load_checks f bias n p choices) (loaded f (the_module f) bias n p choices)
  pub order : Ordered f bias n p choices
  pub same_facts : SameFacts f bias n p choices
  pub packs : (m : Module) → module_of f ≡ good m → Packs f m
  pub lends : (m : Module) → loads_check f m.headers ≡ good tt → Lends f m bias n p
  pub leaves : (m : Module) (l : Loaded) → module_of f ≡ good m → load_of f bias n p choices ≡ good l → Leaves f bias n p choices m l
  pub tags : (m : Module) (l : Loaded) → module_of f ≡ good m → load_of f bias n p choices ≡ good l → Tags f bias n p choices m l
  pub guards_idle : (h : Headers) → headers_of f ≡ good h → loads_check f h ≡ good tt → Idle f h
  pub plain_loader : Exactly (plain_of f bias n) (plain_checks f (plain_module f) bias n) (plain_memory f (plain_module f) bias n)
  pub plain_refuses : PlainRefuses f bias n (plain_of f bias n) (load_of f bias n p choices)

-- the demands hold of all of them
abbrev pub Claim : Type 0
Claim = (f : List ℕ) (bias n p : ℕ) (choices : List ℕ) → Demands f bias n p choices
