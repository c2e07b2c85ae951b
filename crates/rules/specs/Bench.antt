-- The marked rows of the bench sheet, as one table under one claim.
-- Assumes nothing.
use Rattle.std.specs.Prelude.{ℕ, ◌-◌, ◌/◌, ◌^◌, List, [], ◌∷◌, map, ◌≡◌, length}
use Rattle.rules.specs.Outcome.{Outcome, good, refuse}
use Rattle.rules.specs.Limits.{granule}
use Rattle.rules.specs.Descriptors.{Read, global, step_at, table_start}
use Rattle.rules.specs.Plane.{plane_of}
use Rattle.rules.specs.Words.{word_of}
use Rattle.rules.specs.Writer.{written_of}
use Rattle.rules.specs.Picker.{picked_of}
use Rattle.rules.specs.declared.Cursor.{Cursor}
use Rattle.rules.specs.declared.Global.{Global}
use Rattle.rules.specs.declared.Target.TheVariants.{Base}

-- a descriptor table with the cursor to read it at; or the addend of a RELATIVE word with the place's eight bytes; or addresses and
-- sizes of globals to write a table of, with the buffer's length; or to pick tags for, with a random byte each and the mask
pub data Case : Type 0 where
  read : List ℕ → Cursor → Case
  word : ℕ → ℕ → Case
  table : List ℕ → List ℕ → ℕ → Case
  pick : List ℕ → List ℕ → List ℕ → ℕ → Case

-- what reading one descriptor comes to; or the word written; or the table or the tags
pub data Result : Type 0 where
  reads : Outcome Read → Result
  writes : ℕ → Result
  gives : Outcome (List ℕ) → Result

pub record Row : Type 0 where
  pub given : Case
  pub says : Result

abbrev cursor : ℕ → ℕ → Cursor
cursor position end = record { position = position; end = end }

abbrev global_of : ℕ → ℕ → Global
global_of start granules = record { start = start; granules = granules }

-- a row that finds a global of a start and granules, and the cursor after it
abbrev found : List ℕ → Cursor → ℕ → ℕ → Cursor → Row
found bytes from start granules next = record { given = read bytes from; says = reads (good (global (global_of start granules) next)) }

-- a table that is refused with a number
abbrev refused : List ℕ → ℕ → Row
refused bytes number = record { given = read bytes table_start; says = reads (refuse number 0) }

abbrev written : ℕ → ℕ → ℕ → Row
written addend loaded says = record { given = word addend loaded; says = writes says }

abbrev given : List ℕ → List ℕ → ℕ → Outcome (List ℕ) → Row
given addresses sizes room says = record { given = table addresses sizes room; says = gives says }

abbrev picked : List ℕ → List ℕ → List ℕ → ℕ → Outcome (List ℕ) → Row
picked addresses sizes random excluded says = record { given = pick addresses sizes random excluded; says = gives says }

-- 82 10 10 07 01: three globals
abbrev sheet : List ℕ
sheet = 0x82 ∷ 0x10 ∷ 0x10 ∷ 0x07 ∷ 0x01 ∷ []

-- the sheet's bias, memory and plane: those globals with the tags 3, 9, 5
abbrev bias : ℕ
bias = 0x40000000

abbrev memory : ℕ
memory = 0x2000

abbrev plane : List ℕ
plane = plane_of (global_of 0x1000 2 ∷ global_of 0x1040 8 ∷ global_of 0x10c0 1 ∷ []) (3 ∷ 9 ∷ 5 ∷ []) (memory / granule)

-- a number below 0 as eight bytes hold it
abbrev minus : ℕ → ℕ
minus n = 2 ^ 64 - n

abbrev pub rows : List Row
rows =
    found sheet table_start 0x1000 2 (cursor 2 0x1020)
    ∷ found sheet (cursor 2 0x1020) 0x1040 8 (cursor 4 0x10c0)
    ∷ found sheet (cursor 4 0x10c0) 0x10c0 1 (cursor 5 0x10d0)
    ∷ found (0x07 ∷ []) table_start 0 7 (cursor 1 0x70)
    ∷ found (0x00 ∷ 0x07 ∷ []) table_start 0 8 (cursor 2 0x80)
    ∷ refused (0x00 ∷ 0x00 ∷ []) 16
    ∷ refused (0x00 ∷ []) 8
    ∷ refused (0x81 ∷ 0x00 ∷ []) 16
    ∷ refused (0xff ∷ 0xff ∷ 0xff ∷ 0xff ∷ 0xff ∷ 0xff ∷ 0xff ∷ 0xff ∷ 0xff ∷ 0x02 ∷ []) 8
    ∷ written 0x10c0 (minus 128) 0x09000000400010c0
    ∷ written 0x10c0 0 0x05000000400010c0
    ∷ written 0x10c0 (minus 1) 0x09000000400010c0
    ∷ written 0x1020 0 0x0000000040001020
    ∷ given (0x1000 ∷ 0x1040 ∷ 0x10c0 ∷ []) (0x20 ∷ 0x80 ∷ 0x10 ∷ []) 5 (good sheet)
    ∷ given (0x1000 ∷ 0x1040 ∷ 0x10c0 ∷ []) (0x20 ∷ 0x80 ∷ 0x10 ∷ []) 4 (refuse 6 0)
    ∷ given (0 ∷ []) (0x70 ∷ []) 2 (good (0x07 ∷ []))
    ∷ given (0 ∷ []) (0x80 ∷ []) 2 (good (0x00 ∷ 0x07 ∷ []))
    ∷ given (0x1000 ∷ 0x1040 ∷ []) (0x20 ∷ 0 ∷ []) 5 (refuse 2 1)
    ∷ picked (0x1000 ∷ 0x1040 ∷ 0x10c0 ∷ []) (0x20 ∷ 0x80 ∷ 0x10 ∷ []) (0x13 ∷ 0x03 ∷ 0x03 ∷ []) 0 (good (3 ∷ 3 ∷ 4 ∷ []))
    ∷ picked (0 ∷ []) (0x10 ∷ []) (0x0f ∷ []) 0xfffe (refuse 8 0)
    ∷ picked (0 ∷ []) (0x10 ∷ []) (0x0f ∷ []) 0x8000 (good (1 ∷ []))
    ∷ picked (0 ∷ 0x10 ∷ []) (0x10 ∷ 0x10 ∷ []) (0 ∷ 0 ∷ []) 0xffdf (refuse 8 0)
    ∷ picked (0 ∷ 0x20 ∷ []) (0x10 ∷ 0x10 ∷ []) (0 ∷ 0 ∷ []) 0xffdf (good (5 ∷ 5 ∷ []))
    ∷ picked (0 ∷ []) (0x10 ∷ []) [] 0 (refuse 7 0)
    ∷ picked [] [] [] 0xffff (good [])
    ∷ []

-- what the definitions say of a case, with index 0 to report
abbrev pub result_of : Case → Result
result_of (read bytes from) = reads (step_at 0 bytes from)
result_of (word addend loaded) = writes (word_of plane bias memory Base addend loaded)
result_of (table addresses sizes room) = gives (written_of addresses sizes room)
result_of (pick addresses sizes random excluded) = gives (picked_of addresses sizes random excluded (length addresses))

-- the claim: each row says what the definitions say of its case
abbrev pub BenchHolds : Type 0
BenchHolds = map (λ (r : Row). result_of r.given) rows ≡ map (λ (r : Row). r.says) rows
