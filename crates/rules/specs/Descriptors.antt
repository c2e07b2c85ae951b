-- Checks 8, 16 and 9: global descriptors.
-- Assumes nothing.
use Rattle.std.specs.Prelude.{ℕ, zero, suc, ◌+◌, ◌*◌, ◌-◌, ◌/◌, ◌%◌, Bool, true, false, cond}
use Rattle.std.specs.Prelude.{not, ◌&&◌, List, [], ◌∷◌, length, get_or, ltb, leb, eqb, Option, Some, None}
use Rattle.rules.specs.Outcome.{Outcome, good, bad, found, refuse, and_then, require}
use Rattle.rules.specs.Limits.{address_limit, global_limit, granule}
use Rattle.rules.specs.Bytes.{part}
use Rattle.rules.specs.Segments.{in_memory}
use Rattle.rules.specs.declared.Headers.{Headers}
use Rattle.rules.specs.declared.Descriptors.{Descriptors}
use Rattle.rules.specs.declared.Global.{Global}
use Rattle.rules.specs.declared.Cursor.{Cursor}

-- a ULEB128 number with the position after it, or none
pub data Uleb : Type 0 where
  number : ℕ → ℕ → Uleb
  malformed : Uleb

-- a number one byte longer at its low end
abbrev pub extend : ℕ → Uleb → Uleb
extend low (number v next) = number (low + 128 * v) next
extend low malformed = malformed

-- a last byte is below this, with n more bytes allowed: the tenth must be 0 or 1
abbrev pub last_limit : ℕ → ℕ
last_limit zero = 2
last_limit (suc n) = 128

-- the ULEB128 number at a position, of at most so many bytes
unfoldable pub uleb_in : ℕ → List ℕ → ℕ → Uleb
uleb_in zero s at = malformed
uleb_in (suc n) s at =
    cond (ltb at (length s))
    (cond (ltb (get_or s at 0) 128)
    (cond (ltb (get_or s at 0) (last_limit n)) (number (get_or s at 0 % 128) (at + 1)) malformed)
    (extend (get_or s at 0 % 128) (uleb_in n s (at + 1))))
    malformed

-- a ULEB128 has at most ten bytes
abbrev pub uleb_at : List ℕ → ℕ → Uleb
uleb_at s at = uleb_in 10 s at

-- a first number's size is below this, and its distance counts in units of this
abbrev pub size_limit : ℕ
size_limit = 8

-- the number from at to next is padded: it has more than one byte, and the last is 0
abbrev pub padded : List ℕ → ℕ → ℕ → Bool
padded s at next = ltb (at + 1) next && eqb (get_or s (next - 1) 0) 0

-- a second number in shortest form: not padded, and the size, which is that number plus 1, does not go into the first
unfoldable pub short_second : List ℕ → ℕ → Uleb → Bool
short_second s at (number v next) = not (padded s at next) && leb size_limit (v + 1)
short_second s at malformed = false

-- a first number in shortest form, and the second where there is one
unfoldable pub short_first : List ℕ → ℕ → Uleb → Bool
short_first s at (number v next) = not (padded s at next) && cond (eqb (v % size_limit) 0) (short_second s next (uleb_at s next)) true
short_first s at malformed = false

-- the descriptor at a position is in shortest form
abbrev pub short_at : List ℕ → ℕ → Bool
short_at s at = short_first s at (uleb_at s at)

-- what a descriptor says: the distance from the last end and the size, in granules, and the position after it
pub record Descriptor : Type 0 where
  pub distance : ℕ
  pub granules : ℕ
  pub next : ℕ

-- by its parts
abbrev pub saying : ℕ → ℕ → ℕ → Descriptor
saying distance granules next = record { distance = distance; granules = granules; next = next }

-- a second number: the size is that number plus 1
unfoldable pub second : ℕ → ℕ → Uleb → Outcome Descriptor
second index distance (number v next) = good (saying distance (v + 1) next)
second index distance malformed = refuse 8 index

-- the first number: its low three bits are the size, or 0 where a second number follows; the rest is the distance
unfoldable pub descriptor : ℕ → List ℕ → Uleb → Outcome Descriptor
descriptor index s (number v next) =
    cond (eqb (v % size_limit) 0)
    (second index (v / size_limit) (uleb_at s next))
    (good (saying (v / size_limit) (v % size_limit) next))
descriptor index s malformed = refuse 8 index

-- what reading one descriptor finds
pub data Read : Type 0 where
  finished : Read
  global : Global → Cursor → Read

-- where the global that a descriptor says ends, after the last end
abbrev pub end_after : ℕ → Descriptor → ℕ
end_after end d = end + granule * d.distance + granule * d.granules

-- that global, and the cursor after its descriptor
abbrev pub said_after : ℕ → Descriptor → Read
said_after end d =
    global (record { start = end + granule * d.distance; granules = d.granules }) (record { position = d.next; end = end_after end d })

-- its range: refused where it ends above 2^48
unfoldable pub global_after : ℕ → ℕ → Descriptor → Outcome Read
global_after index end d = cond (leb (end_after end d) address_limit) (good (said_after end d)) (refuse 9 index)

-- a descriptor that reads: refused with 16 where it is not in shortest form, and then by its range
abbrev pub judged : ℕ → Bool → ℕ → Descriptor → Outcome Read
judged index short end d = and_then (require short 16 index) (λ _. global_after index end d)

-- the descriptor at a position, after the last end: the tests in their order
unfoldable pub read_at : ℕ → List ℕ → ℕ → ℕ → Outcome Read
read_at index s at end = and_then (descriptor index s (uleb_at s at)) (λ d. judged index (short_at s at) end d)

-- one descriptor at a cursor, called alone, with the index to report: the tests in their order
unfoldable pub step_at : ℕ → List ℕ → Cursor → Outcome Read
step_at index s c =
    cond (leb c.position (length s))
    (cond (eqb (c.end % granule) 0)
    (cond (leb c.end address_limit)
    (cond (ltb c.position (length s)) (read_at index s c.position c.end) (good finished))
    (refuse 9 index))
    (refuse 9 index))
    (refuse 8 index)

-- a global and the cursor after it as plain numbers; no granules where none was read
abbrev pub reading_of : Outcome Read → Option (Global × Cursor)
reading_of (good finished) = None
reading_of (good (global g c)) = Some (g, c)
reading_of (bad r) = None

-- the table's end is the end of the globals
abbrev pub on_global : Read → (Global → Cursor → Outcome (List Global)) → Outcome (List Global)
on_global finished k = good []
on_global (global g c) k = k g c

-- where reading begins: the first global counts from address 0
abbrev pub table_start : Cursor
table_start = record { position = 0; end = 0 }

-- the walk of checks 8, 16 and 9 from the index i on, with n more descriptors allowed: read one, check its form and its range, go on
unfoldable pub globals_from : List ℕ → Headers → List ℕ → ℕ → ℕ → Cursor → Outcome (List Global)
globals_from f h s zero i c = cond (ltb c.position (length s)) (refuse 9 i) (good [])
globals_from f h s (suc n) i c =
    and_then (step_at i s c) (λ r.
    on_global r (λ g next.
    cond (in_memory f h false g.start (granule * g.granules))
    (and_then (globals_from f h s n (i + 1) next) (λ gs. good (g ∷ gs)))
    (refuse 9 i)))

-- the descriptor table's bytes
abbrev pub descriptor_table : List ℕ → Descriptors → List ℕ
descriptor_table f t = part f t.at t.bytes

-- checks 8, 16 and 9, and the globals
unfoldable pub globals_of : List ℕ → Headers → Descriptors → Outcome (List Global)
globals_of f h t = globals_from f h (descriptor_table f t) global_limit 0 table_start

-- the globals that a table lists
abbrev pub globals_listed : List ℕ → Headers → Descriptors → List Global
globals_listed f h t = found [] (globals_of f h t)
