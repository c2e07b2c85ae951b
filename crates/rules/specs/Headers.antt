-- Checks 1 to 3: the file's length, its identification, its header.
-- Assumes nothing.
use Rattle.std.specs.Prelude.{ℕ, ◌+◌, ◌*◌, Bool, not, ◌&&◌, List, [], ◌∷◌, length, get_or, leb, eqb}
use Rattle.rules.specs.Outcome.{Outcome, require}
use Rattle.rules.specs.Checks.{Check, checked}
use Rattle.rules.specs.Limits.{file_least, file_limit, header_limit}
use Rattle.rules.specs.Bytes.{le}
use Rattle.rules.specs.First.{faultless}
use Rattle.rules.specs.declared.Headers.{Headers}

-- check 1: a file that is neither too short nor too long
unfoldable pub size_check : List ℕ → Check
size_check f = require (leb file_least (length f) && leb (length f) file_limit) 1 0

-- check 2: the first seven bytes, at the first wrong one
abbrev pub identification : List ℕ
identification = 0x7f ∷ 0x45 ∷ 0x4c ∷ 0x46 ∷ 2 ∷ 1 ∷ 1 ∷ []

unfoldable pub wrong_byte : List ℕ → ℕ → Bool
wrong_byte f i = not (eqb (get_or f i 0) (get_or identification i 0))

unfoldable pub identification_check : List ℕ → Check
identification_check f = faultless 2 (wrong_byte f) 7

-- check 3: type 3, machine 183, version 1, header size 56, a count of 1 to 16, the table inside a file of so many bytes
unfoldable pub good_header : ℕ → ℕ → ℕ → ℕ → ℕ → ℕ → ℕ → Bool
good_header length kind machine version size count table =
    eqb kind 3
    && (eqb machine 183
    && (eqb version 1
    && (eqb size 56
    && ((leb 1 count && leb count header_limit)
    && leb (table + 56 * count) length))))

unfoldable pub header_check : List ℕ → Check
header_check f =
    require (good_header (length f) (le 2 f 16) (le 2 f 18) (le 4 f 20) (le 2 f 54) (le 2 f 56) (le 8 f 32)) 3 0

-- checks 1 to 3 in their order
abbrev pub header_checks : List ℕ → List Check
header_checks f = size_check f ∷ identification_check f ∷ header_check f ∷ []

-- and where the program headers are
abbrev pub the_headers : List ℕ → Headers
the_headers f = record { table = le 8 f 32; count = le 2 f 56 }

unfoldable pub headers_of : List ℕ → Outcome Headers
headers_of f = checked (header_checks f) (the_headers f)
