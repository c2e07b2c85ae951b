-- One item of what is relocated, by itself.
-- Assumes nothing.
use Rattle.std.specs.Prelude.{ℕ, ◌≡◌, Bool, true, false, cond, not, eqb, List, Option, Some, None, Result, Ok, Err}
use Rattle.rules.specs.Relocations.{place_at, live, target_at, barred, place_fits}
use Rattle.rules.specs.Addresses.{bad_address}
use Rattle.rules.specs.Answers.{number_of}
use Rattle.rules.specs.declared.Headers.{Headers}
use Rattle.rules.specs.declared.Module.{Module}
use Rattle.rules.specs.declared.Reason.{Reason}
use Rattle.segments.specs.Spans.{Sound}
use Rattle.segments.specs.declared.Span.{Span}
use Rattle.judging.specs.declared.Word.{Word}

-- its fault: 0 where it is skipped or nothing is wrong so far, else 10 or 11
unfoldable pub item_fault : List ℕ → Module → ℕ → ℕ
item_fault f m i =
    cond (live f m i) (cond (barred (target_at f m i)) 10 (cond (place_fits f m.headers (place_at f m i)) 0 11)) 0

-- an item with a fault of its own
unfoldable pub has_fault : List ℕ → Module → ℕ → Bool
has_fault f m i = not (eqb (item_fault f m i) 0)

-- the search for the PT_LOAD of a place: none where the place does not fit
abbrev pub Fitted : List ℕ → Headers → ℕ → Option Span → Type 0
Fitted f h place (Some s) = Sound f h true s × (place_fits f h place ≡ true)
Fitted f h place None = place_fits f h place ≡ false

-- the word of an item that is not skipped and has no fault of its own: its place, whether its address is out of range, and the PT_LOAD that
-- holds its place
pub record Relocates (f : List ℕ) (m : Module) (bias i : ℕ) (w : Word) : Type 0 where
  pub fault : item_fault f m i ≡ 0
  pub kept : live f m i ≡ true
  pub place : w.place ≡ place_at f m i
  pub outside : w.outside ≡ bad_address f m bias i
  pub sound : Sound f m.headers true w.span

-- what is found of an entry: its fault, or that it is skipped, or its word
abbrev pub Judges : List ℕ → Module → ℕ → ℕ → Result (Option Word) Reason → Type 0
Judges f m bias i (Err r) = number_of r ≡ item_fault f m i
Judges f m bias i (Ok None) = live f m i ≡ false
Judges f m bias i (Ok (Some w)) = Relocates f m bias i w

-- what is found of a packed place, which is never skipped: its fault, or its word
abbrev pub JudgesPacked : List ℕ → Module → ℕ → ℕ → Result Word Reason → Type 0
JudgesPacked f m bias i (Err r) = number_of r ≡ item_fault f m i
JudgesPacked f m bias i (Ok w) = Relocates f m bias i w
