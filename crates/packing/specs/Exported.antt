-- The load as the C host calls it, and what the numbers that calls answer tell: of the bytes, and of the facts.
-- Assumes nothing.
use Rattle.std.specs.Prelude.{ℕ, ◌/◌, ◌%◌, ◌^◌, ◌≤◌, ◌<◌, ◌≡◌, List, ◌++◌, length, drop}
use Rattle.rules.specs.Outcome.{Outcome, good, bad, refusal, Refusal}
use Rattle.rules.specs.Bytes.{le}
use Rattle.rules.specs.Descriptors.{finished, global, step_at}
use Rattle.rules.specs.Examine.{examined_of}
use Rattle.rules.specs.Writer.{table_of}
use Rattle.rules.specs.declared.Global.{Global}
use Rattle.rules.specs.declared.Cursor.{Cursor}
use Rattle.rules.specs.declared.Facts.{Facts}
use Rattle.demands.specs.Calls.{Buffers, Call, Declined, Accepted}
use Rattle.demands.specs.Writer.{Takes, Refuses, WriteCall}
use Rattle.demands.specs.Picker.{Meets, Picked, PickTakes, PickRefuses, PickCall}
use Rattle.packing.specs.Packed.{packed, packed_count, mode_number, switch_number, packed_facts, step_number, step_words}

-- what the contract of `hagolstan_load` says: a call of the load, and its answer as one number
pub record Exported (f : List ℕ) (bias : ℕ) (choices : List ℕ) (lent left : Buffers) (number : ℕ) : Type 0 where
  pub answer : Outcome Facts
  pub call : Call f bias choices lent left answer
  pub packs : number ≡ packed answer

-- a call that was taken, with so many globals
pub record TakenWith (f : List ℕ) (bias : ℕ) (choices : List ℕ) (lent left : Buffers) (globals : ℕ) : Type 0 where
  pub facts : Facts
  pub accepted : Accepted f bias choices lent left facts
  pub counted : facts.globals ≡ globals

-- the low byte tells a refusal from a load that was taken, and the rest is its position or the number of globals
pub record Told (f : List ℕ) (bias : ℕ) (choices : List ℕ) (lent left : Buffers) (number : ℕ) : Type 0 where
  pub taken : number % 256 ≡ 0 → TakenWith f bias choices lent left (number / 256)
  pub refused : (number % 256 ≡ 0 → ⊥) → Declined f bias choices lent left (refusal (number % 256) (number / 256))

abbrev pub ExportClaim : Type 0
ExportClaim = (f : List ℕ) (bias : ℕ) (choices : List ℕ) (lent left : Buffers) (number : ℕ)
    → Exported f bias choices lent left number → Told f bias choices lent left number

-- ---- examine

-- the same of examine's number: its low byte is 0 exactly where the file is taken, and its parts are the refusal or the number of globals
pub record ExamineTold (f : List ℕ) (number : ℕ) : Type 0 where
  pub taken : number % 256 ≡ 0 → (a : Facts) × ((examined_of f ≡ good a) × (a.globals ≡ number / 256))
  pub refused : (number % 256 ≡ 0 → ⊥) → examined_of f ≡ bad (refusal (number % 256) (number / 256))

-- of the number that the contract of `hagolstan_examine` says
abbrev pub ExamineClaim : Type 0
ExamineClaim = (f : List ℕ) → ExamineTold f (packed (examined_of f))

-- ---- the descriptor reader

-- the words of a global that was read, and of the moved cursor
pub record GlobalWords (left : List ℕ) (g : Global) (next : Cursor) : Type 0 where
  pub start_word : le 8 left 0 ≡ g.start
  pub granules_word : le 8 left 8 ≡ g.granules
  pub position_word : le 8 left 16 ≡ next.position
  pub end_word : le 8 left 24 ≡ next.end

-- the number is 0 exactly where the table is finished, 1 exactly where a global is read, and else the refusal's, at the index handed in. Where
-- words are lent for it they hold the global and the moved cursor, or the index
pub record StepTold (index : ℕ) (table : List ℕ) (c : Cursor) (lent left : List ℕ) (number : ℕ) : Type 0 where
  pub ended : number ≡ 0 → (step_at index table c ≡ good finished) × (left ≡ lent)
  pub read : number ≡ 1 → (g : Global) × ((next : Cursor) × ((step_at index table c ≡ good (global g next))
      × (32 ≤ length lent → length table < 2 ^ 64 → GlobalWords left g next)))
  pub refused : 1 < number → (step_at index table c ≡ bad (refusal number index)) × (8 ≤ length lent → index < 2 ^ 64 → le 8 left 0 ≡ index)

-- of the number and the words that the contract of `hagolstan_step` says
abbrev pub StepClaim : Type 0
StepClaim = (index : ℕ) (table : List ℕ) (c : Cursor) (lent : List ℕ)
    → StepTold index table c lent (step_words (step_at index table c) lent) (step_number (step_at index table c))

-- ---- the writer

-- what the contract of `hagolstan_write_table` says: a call of the writer, and its answer as one number
pub record TableExported (addresses sizes lent left : List ℕ) (number : ℕ) : Type 0 where
  pub answer : Outcome ℕ
  pub call : WriteCall addresses sizes lent left answer
  pub packs : number ≡ packed_count answer

-- the low byte is 0 exactly where the table was written, and the rest is its length or the index; what the buffer then holds
pub record TableTold (addresses sizes lent left : List ℕ) (number : ℕ) : Type 0 where
  pub taken : number % 256 ≡ 0 → Takes addresses sizes (length lent) × (number / 256 ≡ length (table_of addresses sizes))
  pub table_left : number % 256 ≡ 0 → left ≡ table_of addresses sizes ++ drop (number / 256) lent
  pub refused : (number % 256 ≡ 0 → ⊥) → Refuses addresses sizes (length lent) (refusal (number % 256) (number / 256)) × (left ≡ lent)

abbrev pub TableClaim : Type 0
TableClaim = (addresses sizes lent left : List ℕ) (number : ℕ)
    → TableExported addresses sizes lent left number → TableTold addresses sizes lent left number

-- ---- the picker

-- what the contract of `hagolstan_pick_tags` says: a call of the picker, and its answer as one number
pub record PicksExported (addresses sizes random : List ℕ) (excluded : ℕ) (lent left : List ℕ) (number : ℕ) : Type 0 where
  pub answer : Outcome ℕ
  pub call : PickCall addresses sizes random excluded lent left answer
  pub packs : number ≡ packed_count answer

-- the low byte is 0 exactly where tags were picked, and the rest is the number of globals or the index; what the choices then are
pub record PicksTold (addresses sizes random : List ℕ) (excluded : ℕ) (lent left : List ℕ) (number : ℕ) : Type 0 where
  pub taken : number % 256 ≡ 0 → PickTakes addresses sizes random excluded (length lent) × (number / 256 ≡ length addresses)
  pub meets : number % 256 ≡ 0 → Meets addresses sizes excluded left
  pub picked : number % 256 ≡ 0 → Picked addresses sizes random excluded left
  pub refused : (number % 256 ≡ 0 → ⊥)
      → PickRefuses addresses sizes random excluded (length lent) (refusal (number % 256) (number / 256)) × (left ≡ lent)

abbrev pub PicksClaim : Type 0
PicksClaim = (addresses sizes random : List ℕ) (excluded : ℕ) (lent left : List ℕ) (number : ℕ)
    → PicksExported addresses sizes random excluded lent left number → PicksTold addresses sizes random excluded lent left number

-- ---- the facts

-- the facts of a file, each in its own bits: two of mode, heap and stack, seventeen of a count; all bits above are 0
pub record FactsTold (a : Facts) (number : ℕ) : Type 0 where
  pub odd : number % 2 ≡ 1
  pub mode : number / 2 ^ 2 % 4 ≡ mode_number a.mode
  pub heap : number / 2 ^ 4 % 4 ≡ switch_number a.heap
  pub stack : number / 2 ^ 6 % 4 ≡ switch_number a.stack
  pub globals : number / 2 ^ 8 % 2 ^ 17 ≡ a.globals
  pub words : number / 2 ^ 25 % 2 ^ 17 ≡ a.words
  pub above : number / 2 ^ 42 ≡ 0

pub record FactsClaim (f : List ℕ) : Type 0 where
  pub taken : (a : Facts) → examined_of f ≡ good a → FactsTold a (packed_facts (examined_of f))
  pub refused : (r : Refusal) → examined_of f ≡ bad r → packed_facts (examined_of f) ≡ 0
