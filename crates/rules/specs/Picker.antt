-- The picker of document 02: a tag for each listed global, by a random byte each and a mask of excluded tags.
-- Assumes nothing.
use Rattle.std.specs.Prelude.{ℕ, zero, suc, ◌+◌, ◌/◌, ◌%◌, ◌^◌, Bool, false, cond, not, ◌&&◌, List, [], ◌∷◌, length, get_or, leb, eqb}
use Rattle.rules.specs.Outcome.{Outcome, good, bad, require, mapped}
use Rattle.rules.specs.Checks.{Check, checked}
use Rattle.rules.specs.First.{first, some_below, count_below}
use Rattle.rules.specs.Writer.{list_check}

-- a tag has four bits
abbrev pub tag_count : ℕ
tag_count = 16

-- a tag is allowed where its bit in the mask is clear; bit 0 counts as set
unfoldable pub allowed : ℕ → ℕ → Bool
allowed excluded tag = not (eqb tag 0) && eqb (excluded / 2 ^ tag % 2) 0

-- ---- the tag of one global

-- so many tags up from the random byte modulo 16, wrapping at 16
abbrev pub tag_up : ℕ → ℕ → ℕ
tag_up random k = (random % tag_count + k) % tag_count

-- the tag of the global before, which ends at end, where the next one starts there; else 0, which is never allowed
abbrev pub barred_at : ℕ → ℕ → ℕ → ℕ
barred_at end last a = cond (eqb end a) last 0

-- allowed, and not the neighbour's
abbrev pub suits : ℕ → ℕ → ℕ → Bool
suits excluded barred tag = allowed excluded tag && not (eqb tag barred)

-- the first tag going up that suits; where none of the 16 does, check 8 refuses the list
unfoldable pub pick_of : ℕ → ℕ → ℕ → ℕ
pick_of excluded barred random = tag_up random (first (λ k. suits excluded barred (tag_up random k)) 0 tag_count)

-- ---- the tags of a list

-- the picks after a global that ends at end and has the tag last
unfoldable pub picks_from : ℕ → ℕ → ℕ → List ℕ → List ℕ → List ℕ → List ℕ
picks_from excluded end last [] sizes random = []
picks_from excluded end last (a ∷ addresses) [] random = []
picks_from excluded end last (a ∷ addresses) (s ∷ sizes) [] = []
picks_from excluded end last (a ∷ addresses) (s ∷ sizes) (r ∷ random) =
    let pick = pick_of excluded (barred_at end last a) r in
    pick ∷ picks_from excluded (a + s) pick addresses sizes random

-- the first global has none before it
abbrev pub picks_of : ℕ → List ℕ → List ℕ → List ℕ → List ℕ
picks_of excluded addresses sizes random = picks_from excluded 0 0 addresses sizes random

-- ---- the checks

-- the global before the one of index i ends where that one starts
unfoldable pub abuts_at : List ℕ → List ℕ → ℕ → Bool
abuts_at addresses sizes zero = false
abuts_at addresses sizes (suc i) = eqb (get_or addresses i 0 + get_or sizes i 0) (get_or addresses (suc i) 0)

-- how many tags are needed: two where some globals abut, one where none do; and none for no global
unfoldable pub tags_needed : List ℕ → List ℕ → ℕ
tags_needed addresses sizes = cond (eqb (length addresses) 0) 0 (cond (some_below (abuts_at addresses sizes) (length addresses)) 2 1)

-- how many there are
unfoldable pub tags_allowed : ℕ → ℕ
tags_allowed excluded = count_below (allowed excluded) tag_count

-- the checks for n choices: 7 the lists are not all equally long; 2 to 5 at each global, as the writer's; 8 there are fewer tags
-- than are needed
abbrev pub picker_checks : List ℕ → List ℕ → List ℕ → ℕ → ℕ → List Check
picker_checks addresses sizes random excluded n =
    require (eqb (length addresses) (length sizes) && eqb (length addresses) (length random) && eqb (length addresses) n) 7 0
    ∷ list_check 0 0 addresses sizes
    ∷ require (leb (tags_needed addresses sizes) (tags_allowed excluded)) 8 0
    ∷ []

-- the choices that are picked
unfoldable pub picked_of : List ℕ → List ℕ → List ℕ → ℕ → ℕ → Outcome (List ℕ)
picked_of addresses sizes random excluded n = checked (picker_checks addresses sizes random excluded n) (picks_of excluded addresses sizes random)

-- the answer of the call: how many globals there are
abbrev pub globals_after : Outcome (List ℕ) → Outcome ℕ
globals_after o = mapped length o

-- the choices after the call: as lent where it is refused
abbrev pub choices_after : Outcome (List ℕ) → List ℕ → List ℕ
choices_after (good picks) lent = picks
choices_after (bad r) lent = lent
