-- The writer of descriptor tables: what it takes and refuses, and that reading and writing undo each other.
-- Assumes nothing.
use Rattle.std.specs.Prelude.{ℕ, zero, suc, ◌+◌, ◌*◌, ◌%◌, ◌≤◌, ◌<◌, ◌≡◌, true, List, [], ◌∷◌, ◌++◌, map, length, get_or, drop}
use Rattle.rules.specs.Outcome.{Outcome, good, bad, refusal, Refusal}
use Rattle.rules.specs.Limits.{address_limit, granule}
use Rattle.rules.specs.Descriptors.{finished, global, step_at, table_start, descriptor_table}
use Rattle.rules.specs.Choices.{globals_in}
use Rattle.rules.specs.Reader.{module_of}
use Rattle.rules.specs.Writer.{table_of, written_of, length_after, buffer_after}
use Rattle.rules.specs.declared.Global.{Global}
use Rattle.rules.specs.declared.Cursor.{Cursor}
use Rattle.rules.specs.declared.Module.{Module}
use Rattle.demands.specs.Table.{listed}

-- ---- which lists are taken

abbrev pub writer_numbers : List ℕ
writer_numbers = 1 ∷ 2 ∷ 3 ∷ 4 ∷ 5 ∷ 6 ∷ []

module _ (addresses sizes : List ℕ) where
  -- where the global before one ends; the first counts from 0
  abbrev pub end_before : ℕ → ℕ
  end_before zero = 0
  end_before (suc i) = get_or addresses i 0 + get_or sizes i 0

  -- size and address of a global are whole granules, and it is not empty
  pub record Whole (i : ℕ) : Type 0 where
    pub filled : 0 < get_or sizes i 0
    pub whole_size : get_or sizes i 0 % granule ≡ 0
    pub whole_address : get_or addresses i 0 % granule ≡ 0

  -- a global that is taken
  pub record Fits (i : ℕ) : Type 0 where
    pub whole : Whole i
    pub after : end_before i ≤ get_or addresses i 0
    pub low : get_or addresses i 0 + get_or sizes i 0 ≤ address_limit

  -- the first thing that is wrong with a global, by its number
  pub data Wrong (i number : ℕ) : Type 0 where
    empty : number ≡ 2 → get_or sizes i 0 ≡ 0 → Wrong i number
    uneven : number ≡ 3 → 0 < get_or sizes i 0 → (Whole i → ⊥) → Wrong i number
    before_end : number ≡ 4 → Whole i → get_or addresses i 0 < end_before i → Wrong i number
    high : number ≡ 5 → Whole i → end_before i ≤ get_or addresses i 0 → address_limit < get_or addresses i 0 + get_or sizes i 0 → Wrong i number

  -- every global before index i is taken
  abbrev pub FitBelow : ℕ → Type 0
  FitBelow i = (j : ℕ) → j < i → Fits j

  -- what is taken with a buffer of n bytes
  pub record Takes (n : ℕ) : Type 0 where
    pub as_many : length addresses ≡ length sizes
    pub fit : FitBelow (length addresses)
    pub room : length (table_of addresses sizes) ≤ n

  -- a refusal: the lists differ in length; else the first global with a fault; else the buffer is too small
  pub data Refuses (n : ℕ) (r : Refusal) : Type 0 where
    unequal : r ≡ refusal 1 0 → (length addresses ≡ length sizes → ⊥) → Refuses n r
    at_global : (i number : ℕ) → r ≡ refusal number i → length addresses ≡ length sizes → i < length addresses → FitBelow i → Wrong i number
        → Refuses n r
    small : r ≡ refusal 6 0 → length addresses ≡ length sizes → FitBelow (length addresses) → n < length (table_of addresses sizes) → Refuses n r

  -- both exactly; a table is bytes, at most 14 of them a global; the globals below an index fill so many granules; a refusal has
  -- one of six numbers, and an index that they bound
  pub record Writes (n : ℕ) : Type 0 where
    pub taken_if : Takes n → written_of addresses sizes n ≡ good (table_of addresses sizes)
    pub taken_only_if : (table : List ℕ) → written_of addresses sizes n ≡ good table → Takes n × (table ≡ table_of addresses sizes)
    pub refused_if : (r : Refusal) → Refuses n r → written_of addresses sizes n ≡ bad r
    pub refused_only_if : (r : Refusal) → written_of addresses sizes n ≡ bad r → Refuses n r
    pub bytes : (i : ℕ) → get_or (table_of addresses sizes) i 0 < 256
    pub short : Takes n → length (table_of addresses sizes) ≤ 14 * length addresses
    pub few : (i : ℕ) → FitBelow i → granule * i ≤ address_limit
    pub numbered : (r : Refusal) → Refuses n r → listed writer_numbers r.number ≡ true
    pub indexed : (r : Refusal) → Refuses n r → granule * r.position ≤ address_limit

-- ---- reading and writing

-- the addresses and the byte sizes of globals
abbrev pub addresses_of : List Global → List ℕ
addresses_of gs = map (λ (g : Global). g.start) gs

abbrev pub sizes_of : List Global → List ℕ
sizes_of gs = map (λ (g : Global). granule * g.granules) gs

-- one step of the reader gives a global
pub record Gives (Rest : Cursor → Type 0) (s : List ℕ) (i : ℕ) (c : Cursor) (g : Global) : Type 0 where
  pub next : Cursor
  pub reads : step_at i s c ≡ good (global g next)
  pub rest : Rest next

-- the reader's steps over a table, from a cursor on, give these globals, one a step, and then 'finished'
abbrev pub Lists : List ℕ → ℕ → Cursor → List Global → Type 0
Lists s i c [] = step_at i s c ≡ good finished
Lists s i c (g ∷ gs) = Gives (λ next. Lists s (i + 1) next gs) s i c g

-- what was written reads back as the lists
pub record ReadsBack (addresses sizes : List ℕ) : Type 0 where
  pub globals : List Global
  pub reads : Lists (table_of addresses sizes) 0 table_start globals
  pub same_addresses : addresses_of globals ≡ addresses
  pub same_sizes : sizes_of globals ≡ sizes

-- the globals that were read from a table are taken, and writing them gives its bytes back
pub record WritesBack (s : List ℕ) (gs : List Global) : Type 0 where
  pub takes : (n : ℕ) → length s ≤ n → Takes (addresses_of gs) (sizes_of gs) n
  pub back : table_of (addresses_of gs) (sizes_of gs) ≡ s

-- each element is a byte; past the end stands 0
abbrev pub Bytes : List ℕ → Type 0
Bytes s = (i : ℕ) → get_or s i 0 < 256

-- a module's descriptor table
abbrev pub table_in : List ℕ → Module → List ℕ
table_in f m = descriptor_table f m.descriptors

-- ---- a call

-- what the contract of `write_table` says: the buffer as lent, the buffer as left, and the answer
pub record WriteCall (addresses sizes lent left : List ℕ) (answer : Outcome ℕ) : Type 0 where
  pub answered : answer ≡ length_after (written_of addresses sizes (length lent))
  pub written : left ≡ buffer_after (written_of addresses sizes (length lent)) lent

-- a call that is taken leaves the table and then the bytes that were there, and answers its length; a refused one leaves all as lent
pub record WriteKept (addresses sizes lent left : List ℕ) (answer : Outcome ℕ) : Type 0 where
  pub taken : (n : ℕ) → answer ≡ good n → Takes addresses sizes (length lent) × (n ≡ length (table_of addresses sizes))
  pub table_left : (n : ℕ) → answer ≡ good n → left ≡ table_of addresses sizes ++ drop n lent
  pub refused : (r : Refusal) → answer ≡ bad r → Refuses addresses sizes (length lent) r × (left ≡ lent)

-- ---- the demands on the writer

pub record WriterClaim : Type 0 where
  pub writes : (addresses sizes : List ℕ) (n : ℕ) → Writes addresses sizes n
  pub read_back : (addresses sizes : List ℕ) (n : ℕ) → Takes addresses sizes n → ReadsBack addresses sizes
  pub write_back : (s : List ℕ) (gs : List Global) → Bytes s → Lists s 0 table_start gs → WritesBack s gs
  -- two tables that list the same globals are the same bytes
  pub one_table : (s t : List ℕ) (gs : List Global) → Bytes s → Bytes t → Lists s 0 table_start gs → Lists t 0 table_start gs → s ≡ t
  -- a module that is read has the table that is written of its globals; and two with the same globals have the same one
  pub module_table : (f : List ℕ) (m : Module) → Bytes f → module_of f ≡ good m
      → Lists (table_in f m) 0 table_start (globals_in f m) × WritesBack (table_in f m) (globals_in f m)
  pub one_module_table : (f g : List ℕ) (m n : Module) → Bytes f → Bytes g → module_of f ≡ good m → module_of g ≡ good n
      → globals_in f m ≡ globals_in g n → table_in f m ≡ table_in g n
  pub kept : (addresses sizes lent left : List ℕ) (answer : Outcome ℕ) → WriteCall addresses sizes lent left answer
      → WriteKept addresses sizes lent left answer
