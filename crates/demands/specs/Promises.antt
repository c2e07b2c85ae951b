-- Start here: all that is promised of the loader, under one name. What each promise says stands in the file of its name.
-- Assumes nothing.
use Rattle.std.specs.Prelude.{ℕ, List}
use Rattle.rules.specs.Memory.{signed}
use Rattle.rules.specs.Choices.{bad_choice}
use Rattle.rules.specs.declared.Global.{Global}
use Rattle.rules.specs.declared.Cursor.{Cursor}
use Rattle.demands.specs.Table.{Table}
use Rattle.demands.specs.Fields.{TwosComplement, Limited}
use Rattle.demands.specs.Sentences.{Clears, GoodChoice, Sentences}
use Rattle.demands.specs.Uleb.{UlebClaim}
use Rattle.demands.specs.Steps.{Steps}
use Rattle.demands.specs.Writer.{WriterClaim}
use Rattle.demands.specs.Picker.{PickerClaim}
use Rattle.demands.specs.Demands.{Claim}
use Rattle.demands.specs.Calls.{CallClaim}

pub record Promises : Type 0 where
  -- the three demands, of every file, bias, lengths of memory and plane, and choices
  pub demands : Claim
  -- a call of the load: its contract gives the demands of the very bytes that it was lent and leaves
  pub calls : CallClaim
  -- the descriptor reader alone, whatever it is handed
  pub steps : (index : ℕ) (table : List ℕ) (c : Cursor) → Steps index table c
  -- the writer of descriptor tables
  pub writer : WriterClaim
  -- the picker of tags
  pub picker : PickerClaim
  -- the table of refusals, a row a number
  pub refusals : (f : List ℕ) → Table f
  -- a ULEB128 number, which the descriptor reader and its statements rest on, is read exactly where its bytes are one
  pub numbers : UlebClaim
  -- addends and loaded bytes are two's complement
  pub signed_numbers : (v : ℕ) → TwosComplement v (signed v)
  -- the limits by their numbers
  pub limits : Limited
  -- the tests that the checks rest on: each exactly a sentence of document 01
  pub sentences : (f : List ℕ) → Sentences f
  pub choice : (gs : List Global) (choices : List ℕ) (i : ℕ) → Clears (bad_choice gs choices i) (GoodChoice gs choices i)
