-- Document 01's sentences on the header, on PT_LOADs and on what they hold, over the file's bytes and exact sums.
-- Assumes nothing.
use Rattle.std.specs.Prelude.{ℕ, ◌+◌, ◌*◌, ◌%◌, ◌^◌, ◌≤◌, ◌<◌, ◌≡◌, List, length}
use Rattle.rules.specs.Bytes.{le}
use Rattle.rules.specs.Limits.{memory_limit}
use Rattle.demands.specs.Fields.{header_count, type_at, flags_at, offset_at, vaddr_at, filesz_at, memsz_at, align_at}

-- check 3: type 3, machine 183, version 1, program header size 56, count 1 to 16, that table inside the file
pub record GoodHeader (f : List ℕ) : Type 0 where
  pub shared_object : le 2 f 16 ≡ 3
  pub machine : le 2 f 18 ≡ 183
  pub version : le 4 f 20 ≡ 1
  pub header_size : le 2 f 54 ≡ 56
  pub count_least : 1 ≤ le 2 f 56
  pub count_most : le 2 f 56 ≤ 16
  pub table_inside : le 8 f 32 + 56 * le 2 f 56 ≤ length f

module _ (f : List ℕ) where
  -- header i is a PT_LOAD
  pub record IsLoad (i : ℕ) : Type 0 where
    pub listed : i < header_count f
    pub loads : type_at f i ≡ 1

  -- header j is the PT_LOAD before header i in the table
  pub record LoadBefore (j i : ℕ) : Type 0 where
    pub before : j < i
    pub loads : type_at f j ≡ 1
    pub nearest : (k : ℕ) → j < k → k < i → type_at f k ≡ 1 → ⊥

  -- align is 0, 1 or a power of two modulo which offset and vaddr agree
  pub data GoodAlign (i : ℕ) : Type 0 where
    zero_align : align_at f i ≡ 0 → GoodAlign i
    one_align : align_at f i ≡ 1 → GoodAlign i
    power_align : (k : ℕ) → align_at f i ≡ 2 ^ k → offset_at f i % 2 ^ k ≡ vaddr_at f i % 2 ^ k → GoodAlign i

  -- check 4: header i, a PT_LOAD, is good
  pub record GoodLoad (i : ℕ) : Type 0 where
    pub filled : memsz_at f i ≡ 0 → ⊥
    pub sized : filesz_at f i ≤ memsz_at f i
    pub in_file : offset_at f i + filesz_at f i ≤ length f
    pub in_limit : vaddr_at f i + memsz_at f i ≤ memory_limit
    pub after : (j : ℕ) → LoadBefore j i → vaddr_at f j + memsz_at f j ≤ vaddr_at f i
    pub aligned : GoodAlign i

  -- the n bytes from address a are wholly inside the file part of one PT_LOAD, and stand at x in the file
  pub record Backed (a n x : ℕ) : Type 0 where
    pub header : ℕ
    pub load : IsLoad header
    pub first_byte : vaddr_at f header ≤ a
    pub last_byte : a + n ≤ vaddr_at f header + filesz_at f header
    pub stands : x + vaddr_at f header ≡ offset_at f header + a

  -- a table of n bytes at address a: one of 0 bytes is accepted at any address, and counts as standing at 0; any other must be backed
  pub data TableAt (a n x : ℕ) : Type 0 where
    empty : n ≡ 0 → x ≡ 0 → TableAt a n x
    backed : 0 < n → Backed a n x → TableAt a n x

  -- they are inside the memory part of header i, a PT_LOAD
  pub record InMemory (a n i : ℕ) : Type 0 where
    pub load : IsLoad i
    pub first_byte : vaddr_at f i ≤ a
    pub last_byte : a + n ≤ vaddr_at f i + memsz_at f i

  -- header i is writable: flag 2, which is flags with 1 or 0 below it and any flags above
  pub record Writable (i : ℕ) : Type 0 where
    pub above : ℕ
    pub below : ℕ
    pub small : below < 2
    pub flags : flags_at f i ≡ 4 * above + 2 + below
