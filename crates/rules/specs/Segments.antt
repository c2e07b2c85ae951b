-- Check 4, and what the PT_LOADs hold.
-- Assumes nothing.
use Rattle.std.specs.Prelude.{ℕ, zero, suc, ◌+◌, ◌*◌, ◌-◌, ◌/◌, ◌%◌, ◌^◌, max, Bool, false}
use Rattle.std.specs.Prelude.{cond, not, ◌&&◌, ◌||◌, List, length, ltb, leb, eqb, Option, Some, None}
use Rattle.rules.specs.Checks.{Check}
use Rattle.rules.specs.Limits.{file_limit, memory_limit}
use Rattle.rules.specs.Bytes.{le}
use Rattle.rules.specs.First.{first, some_below, faultless}
use Rattle.rules.specs.declared.Headers.{Headers}
use Rattle.rules.specs.declared.Segment.{Segment}

-- the program header of index i
unfoldable pub header_at : List ℕ → Headers → ℕ → Segment
header_at f h i = record {
  kind = le 4 f (h.table + 56 * i);
  flags = le 4 f (h.table + 56 * i + 4);
  offset = le 8 f (h.table + 56 * i + 8);
  vaddr = le 8 f (h.table + 56 * i + 16);
  filesz = le 8 f (h.table + 56 * i + 32);
  memsz = le 8 f (h.table + 56 * i + 40);
  align = le 8 f (h.table + 56 * i + 48);
}

-- PT_LOAD and PT_DYNAMIC
abbrev pub is_load : Segment → Bool
is_load s = eqb s.kind 1

abbrev pub is_dynamic : Segment → Bool
is_dynamic s = eqb s.kind 2

-- writable is flag 2
abbrev pub writable : Segment → Bool
writable s = eqb (s.flags / 2 % 2) 1

-- a is 2 ^ k for a k below n
unfoldable pub power_below : ℕ → ℕ → Bool
power_below zero a = false
power_below (suc n) a = eqb a (2 ^ n) || power_below n a

-- align is 0, 1 or a power of two modulo which offset and vaddr agree
unfoldable pub aligned : ℕ → ℕ → ℕ → Bool
aligned align offset vaddr = ltb align 2 || (power_below 64 align && eqb (offset % align) (vaddr % align))

-- a PT_LOAD is good in a file of so many bytes, where the PT_LOAD before it ends at last
unfoldable pub good_load : ℕ → ℕ → Segment → Bool
good_load length last s =
    not (eqb s.memsz 0)
    && (leb s.filesz s.memsz
    && (leb (s.offset + s.filesz) length
    && (leb (s.vaddr + s.memsz) memory_limit
    && (leb last s.vaddr
    && aligned s.align s.offset s.vaddr))))

-- the end of the last PT_LOAD below the index i, or 0
unfoldable pub end_before : List ℕ → Headers → ℕ → ℕ
end_before f h zero = 0
end_before f h (suc i) = cond (is_load (header_at f h i)) ((header_at f h i).vaddr + (header_at f h i).memsz) (end_before f h i)

-- the end of the last PT_LOAD
abbrev pub loads_end : List ℕ → Headers → ℕ
loads_end f h = end_before f h h.count

-- the largest align of the PT_LOADs below the index i; 0 counts as 1
unfoldable pub align_before : List ℕ → Headers → ℕ → ℕ
align_before f h zero = 1
align_before f h (suc i) = cond (is_load (header_at f h i)) (max (align_before f h i) (header_at f h i).align) (align_before f h i)

-- the largest align of any PT_LOAD (check 12)
abbrev pub largest_align : List ℕ → Headers → ℕ
largest_align f h = align_before f h h.count

-- check 4: a bad PT_LOAD
unfoldable pub bad_load : List ℕ → Headers → ℕ → Bool
bad_load f h i = is_load (header_at f h i) && not (good_load (length f) (end_before f h i) (header_at f h i))

unfoldable pub loads_check : List ℕ → Headers → Check
loads_check f h = faultless 4 (bad_load f h) h.count

-- the size bytes from start hold the n bytes from a
unfoldable pub covers : ℕ → ℕ → ℕ → ℕ → Bool
covers start size a n = leb start a && leb (a + n) (start + size)

-- the n bytes from a are inside the file part of a PT_LOAD; the last clause follows from checks 1 and 4
unfoldable pub backs : ℕ → ℕ → Segment → Bool
backs a n s = is_load s && (covers s.vaddr s.filesz a n && leb (s.offset + s.filesz) file_limit)

-- where the n bytes from a are backed, in the file
abbrev pub backing_in : Segment → ℕ → Option ℕ
backing_in s a = Some (s.offset + (a - s.vaddr))

unfoldable pub backs_at : List ℕ → Headers → ℕ → ℕ → ℕ → Bool
backs_at f h a n i = backs a n (header_at f h i)

-- the first PT_LOAD that backs them, or how many headers there are
unfoldable pub backer : List ℕ → Headers → ℕ → ℕ → ℕ
backer f h a n = first (backs_at f h a n) 0 h.count

unfoldable pub backing_of : List ℕ → Headers → ℕ → ℕ → Option ℕ
backing_of f h a n = cond (ltb (backer f h a n) h.count) (backing_in (header_at f h (backer f h a n)) a) None

-- the n bytes from a are inside the memory part of a PT_LOAD, a writable one where that is asked
unfoldable pub holds : Bool → ℕ → ℕ → Segment → Bool
holds write a n s = is_load s && ((not write || writable s) && covers s.vaddr s.memsz a n)

unfoldable pub holds_at : List ℕ → Headers → Bool → ℕ → ℕ → ℕ → Bool
holds_at f h write a n i = holds write a n (header_at f h i)

unfoldable pub in_memory : List ℕ → Headers → Bool → ℕ → ℕ → Bool
in_memory f h write a n = some_below (holds_at f h write a n) h.count
