-- The writer of document 02: the checks of a list of globals, and its descriptor table, by the Memtag ABI's encoding in shortest form.
-- Assumes nothing.
use Rattle.std.specs.Prelude.{ℕ, zero, suc, ◌+◌, ◌*◌, ◌-◌, ◌/◌, ◌%◌, cond, not, ◌&&◌, List, [], ◌∷◌, ◌++◌, length, ltb, leb, eqb}
use Rattle.rules.specs.Outcome.{Outcome, good, bad, and_then, require, mapped}
use Rattle.rules.specs.Checks.{Check, runs, checked}
use Rattle.rules.specs.Limits.{address_limit, granule}
use Rattle.rules.specs.Memory.{put}
use Rattle.rules.specs.Descriptors.{size_limit}

-- v as ULEB128 of at most so many bytes: seven bits a byte, the lowest first, 128 added where another byte follows
unfoldable pub uleb_bytes : ℕ → ℕ → List ℕ
uleb_bytes zero v = []
uleb_bytes (suc n) v = cond (ltb v 128) (v ∷ []) ((v % 128 + 128) ∷ uleb_bytes n (v / 128))

abbrev pub uleb : ℕ → List ℕ
uleb v = uleb_bytes 10 v

-- a global of so many granules, distance granules after the last end: a size below 8 goes into the low three bits of the first
-- number; else these are 0, and the size less 1 is a second number
abbrev pub descriptor_of : ℕ → ℕ → List ℕ
descriptor_of distance granules =
    cond (ltb granules size_limit) (uleb (size_limit * distance + granules)) (uleb (size_limit * distance) ++ uleb (granules - 1))

-- the descriptor of a global by address and byte size, after one that ends at end
abbrev pub descriptor_after : ℕ → ℕ → ℕ → List ℕ
descriptor_after end a s = descriptor_of ((a - end) / granule) (s / granule)

-- the descriptors of a list of them
unfoldable pub table_from : ℕ → List ℕ → List ℕ → List ℕ
table_from end [] sizes = []
table_from end (a ∷ addresses) [] = []
table_from end (a ∷ addresses) (s ∷ sizes) = descriptor_after end a s ++ table_from (a + s) addresses sizes

-- the table: the first global counts from address 0
abbrev pub table_of : List ℕ → List ℕ → List ℕ
table_of addresses sizes = table_from 0 addresses sizes

-- the checks of the global of index i, after one that ends at end: 2 size 0; 3 size or address no multiple of 16; 4 it starts
-- before that end; 5 it ends above 2^48
abbrev pub listed_checks : ℕ → ℕ → ℕ → ℕ → List Check
listed_checks i end a s =
    require (not (eqb s 0)) 2 i
    ∷ require (eqb (s % granule) 0 && eqb (a % granule) 0) 3 i
    ∷ require (leb end a) 4 i
    ∷ require (leb (a + s) address_limit) 5 i
    ∷ []

-- the checks of each global in turn
unfoldable pub list_check : ℕ → ℕ → List ℕ → List ℕ → Check
list_check i end [] sizes = good tt
list_check i end (a ∷ addresses) [] = good tt
list_check i end (a ∷ addresses) (s ∷ sizes) = and_then (runs (listed_checks i end a s)) (λ _. list_check (i + 1) (a + s) addresses sizes)

-- the checks of a table for a buffer of n bytes: 1 the lists differ in length; 2 to 5 at each global; 6 the buffer is too small
abbrev pub writer_checks : List ℕ → List ℕ → ℕ → List Check
writer_checks addresses sizes n =
    require (eqb (length addresses) (length sizes)) 1 0
    ∷ list_check 0 0 addresses sizes
    ∷ require (leb (length (table_of addresses sizes)) n) 6 0
    ∷ []

-- the table that is written
unfoldable pub written_of : List ℕ → List ℕ → ℕ → Outcome (List ℕ)
written_of addresses sizes n = checked (writer_checks addresses sizes n) (table_of addresses sizes)

-- the answer of the call: the table's length
abbrev pub length_after : Outcome (List ℕ) → Outcome ℕ
length_after o = mapped length o

-- the buffer after the call: the table over its front; as lent where it is refused
abbrev pub buffer_after : Outcome (List ℕ) → List ℕ → List ℕ
buffer_after (good table) lent = put lent 0 table
buffer_after (bad r) lent = lent
