-- The descriptor reader alone: what one step does, whatever it is handed.
-- Assumes nothing.
use Rattle.std.specs.Prelude.{ℕ, ◌+◌, ◌*◌, ◌%◌, ◌≤◌, ◌<◌, ◌≡◌, List, length}
use Rattle.rules.specs.Outcome.{good, bad, refusal, Refusal}
use Rattle.rules.specs.Limits.{address_limit, granule}
use Rattle.rules.specs.Descriptors.{number, uleb_at, size_limit, Descriptor, finished, global, step_at}
use Rattle.rules.specs.Choices.{end_of}
use Rattle.rules.specs.declared.Global.{Global}
use Rattle.rules.specs.declared.Cursor.{Cursor}

-- ---- what bytes say

-- the bytes at a position say a distance and a size: a size from 1 to 7 in the first number, or any size less 1 in a second one
pub data Says (table : List ℕ) (at : ℕ) (d : Descriptor) : Type 0 where
  in_one : uleb_at table at ≡ number (size_limit * d.distance + d.granules) d.next → 1 ≤ d.granules → d.granules < size_limit → Says table at d
  in_two : (after less : ℕ) → uleb_at table at ≡ number (size_limit * d.distance) after → uleb_at table after ≡ number less d.next
      → d.granules ≡ less + 1 → Says table at d

-- other bytes, of some table, say the same and are fewer
pub record Shorter (at : ℕ) (d : Descriptor) : Type 0 where
  pub table : List ℕ
  pub position : ℕ
  pub other : Descriptor
  pub says : Says table position other
  pub same_distance : other.distance ≡ d.distance
  pub same_size : other.granules ≡ d.granules
  pub fewer : at + other.next < position + d.next

-- ---- a step

-- a descriptor can be read at the cursor: bytes are left, and the last end is whole granules by 2^48
pub record Ready (table : List ℕ) (c : Cursor) : Type 0 where
  pub left : c.position < length table
  pub whole : c.end % granule ≡ 0
  pub low : c.end ≤ address_limit

-- why a step refuses, by its number: a position past the table; a last end that is none; a descriptor that does not read; one that
-- reads and that fewer bytes would say; and then one whose global ends above 2^48
pub data Fault (table : List ℕ) (c : Cursor) (code : ℕ) : Type 0 where
  past_table : code ≡ 8 → length table < c.position → Fault table c code
  bad_end : code ≡ 9 → c.position ≤ length table → (c.end % granule ≡ 0 → c.end ≤ address_limit → ⊥) → Fault table c code
  unread : code ≡ 8 → Ready table c → ((d : Descriptor) → Says table c.position d → ⊥) → Fault table c code
  too_long : code ≡ 16 → (d : Descriptor) → Ready table c → Says table c.position d → Shorter c.position d → Fault table c code
  ends_above : code ≡ 9 → (d : Descriptor) → Ready table c → Says table c.position d → (Shorter c.position d → ⊥)
      → address_limit < c.end + granule * d.distance + granule * d.granules → Fault table c code

-- a global is read: what the bytes say, in no more bytes than it takes, after the last end
pub record Found (table : List ℕ) (c : Cursor) (g : Global) (next : Cursor) : Type 0 where
  pub said : Descriptor
  pub ready : Ready table c
  pub says : Says table c.position said
  pub shortest : Shorter c.position said → ⊥
  pub start : g.start ≡ c.end + granule * said.distance
  pub size : g.granules ≡ said.granules
  pub low : end_of g ≤ address_limit
  pub position : next.position ≡ said.next
  pub end : next.end ≡ end_of g

-- and so the cursor has moved past its descriptor, which is two numbers of ten bytes at most, and past its end
pub record Moved (table : List ℕ) (c : Cursor) (g : Global) (next : Cursor) : Type 0 where
  pub forward : c.position < next.position
  pub within : next.position ≤ length table
  pub short : next.position ≤ c.position + 20
  pub after : c.end ≤ g.start
  pub filled : 1 ≤ g.granules
  pub ends : next.end ≡ end_of g
  pub whole : next.end % granule ≡ 0
  pub low : next.end ≤ address_limit

-- a step refuses by a fault, with the index handed in, or finishes at the table's end, or reads a global; each exactly so
pub record Steps (index : ℕ) (table : List ℕ) (c : Cursor) : Type 0 where
  pub step_refusal : (r : Refusal) → step_at index table c ≡ bad r → (code : ℕ) × ((r ≡ refusal code index) × Fault table c code)
  pub refusal_step : (code : ℕ) → Fault table c code → step_at index table c ≡ bad (refusal code index)
  pub step_finished : step_at index table c ≡ good finished → c.position ≡ length table
  pub finished_step : c.position ≡ length table → c.end % granule ≡ 0 → c.end ≤ address_limit → step_at index table c ≡ good finished
  pub step_global : (g : Global) (next : Cursor) → step_at index table c ≡ good (global g next) → Found table c g next
  pub global_step : (g : Global) (next : Cursor) → Found table c g next → step_at index table c ≡ good (global g next)
  pub moved : (g : Global) (next : Cursor) → step_at index table c ≡ good (global g next) → Moved table c g next
