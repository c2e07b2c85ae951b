-- What the program answers to its input.
-- Assumes nothing.
use Rattle.std.specs.Prelude.{ℕ, cond, List, length, leb}
use Rattle.rules.specs.Outcome.{Outcome, refuse}
use Rattle.rules.specs.Examine.{examined_of}
use Rattle.rules.specs.declared.Facts.{Facts}

-- an image has at most so many bytes
abbrev pub image_limit : ℕ
image_limit = 65536

-- longer input is refused before anything else; an image is examined
unfoldable pub image_answer : List ℕ → Outcome Facts
image_answer f = cond (leb (length f) image_limit) (examined_of f) (refuse 1 0)
