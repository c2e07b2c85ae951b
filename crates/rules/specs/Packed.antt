-- Packed relative relocations (DT_RELR) of document 02: the places that a table of words stands for, and check 15.
-- Assumes nothing.
use Rattle.std.specs.Prelude.{ℕ, zero, suc, ◌+◌, ◌*◌, ◌/◌, ◌%◌, Bool, cond, not, ◌&&◌, ◌||◌, List, [], ◌∷◌, ◌++◌, map, length, ltb, eqb}
use Rattle.rules.specs.Outcome.{Outcome, good, and_then}
use Rattle.rules.specs.Checks.{Check}
use Rattle.rules.specs.Limits.{entry_limit}
use Rattle.rules.specs.Bytes.{le}
use Rattle.rules.specs.First.{some_below, faultless}
use Rattle.rules.specs.Tables.{table_backing, backed, packed_address, packed_bytes}
use Rattle.rules.specs.declared.Headers.{Headers}
use Rattle.rules.specs.declared.Dynamic.{Dynamic}
use Rattle.rules.specs.declared.Relocations.{Relocations}
use Rattle.rules.specs.declared.Packed.{Packed}

-- a place, with the index of the word that names it
pub record Named : Type 0 where
  pub place : ℕ
  pub word : ℕ

abbrev pub named : ℕ → ℕ → Named
named word place = record { place = place; word = word }

-- the word of index k of the table at a position of the file
abbrev pub packed_word : List ℕ → ℕ → ℕ → ℕ
packed_word f at k = le 8 f (at + 8 * k)

-- an even word is a place, an odd one a bitmap
abbrev pub is_place : ℕ → Bool
is_place w = eqb (w % 2) 0

-- a bitmap has so many bits for places, and the run moves on past it by so many bytes
abbrev pub bitmap_bits : ℕ
bitmap_bits = 63

abbrev pub bitmap_bytes : ℕ
bitmap_bytes = 504

-- the places that n bits name, the lowest bit first: its place is at, that of each next bit 8 bytes on
unfoldable pub places_in : ℕ → ℕ → ℕ → List ℕ
places_in zero at bits = []
places_in (suc n) at bits = cond (eqb (bits % 2) 1) (at ∷ []) [] ++ places_in n (at + 8) (bits / 2)

-- the places of a word, where the run stands: an even word itself; of an odd word those that bits 1 to 63 name in the run
unfoldable pub places_of : ℕ → ℕ → List ℕ
places_of run w = cond (is_place w) (w ∷ []) (places_in bitmap_bits run (w / 2))

-- the run after a word: it starts 8 bytes after a place, and moves on past a bitmap
unfoldable pub run_after : ℕ → ℕ → ℕ
run_after run w = cond (is_place w) (w + 8) (run + bitmap_bytes)

-- the places of the n words from the index k on, where the run stands, each with its word's index
unfoldable pub packed_from : List ℕ → ℕ → ℕ → ℕ → ℕ → List Named
packed_from f at run k zero = []
packed_from f at run k (suc n) =
    map (named k) (places_of run (packed_word f at k)) ++ packed_from f at (run_after run (packed_word f at k)) (k + 1) n

-- the places of the words below the index k
abbrev pub packed_before : List ℕ → ℕ → ℕ → List Named
packed_before f at k = packed_from f at 0 0 k

-- word k is a place
unfoldable pub is_place_at : List ℕ → ℕ → ℕ → Bool
is_place_at f at k = is_place (packed_word f at k)

-- check 15 of a word: a bitmap before any place; or one whose places make entries and packed places too many together
unfoldable pub bad_word : List ℕ → ℕ → ℕ → ℕ → Bool
bad_word f at entries k =
    (not (is_place_at f at k) && not (some_below (is_place_at f at) k))
    || ltb entry_limit (entries + length (packed_before f at (k + 1)))

abbrev pub words_check : List ℕ → ℕ → ℕ → ℕ → Check
words_check f at entries n = faultless 15 (bad_word f at entries) n

-- the packed table at a position of the file, of so many words
abbrev pub packed_at : List ℕ → ℕ → ℕ → Packed
packed_at f at n = record { at = at; words = n; places = length (packed_before f at n) }

-- check 15: the packed table not backed; then its words
unfoldable pub packed_of : List ℕ → Headers → Dynamic → Relocations → Outcome Packed
packed_of f h d r =
    and_then (backed 15 0 (table_backing f h (packed_address f d) (packed_bytes f d))) (λ at.
    and_then (words_check f at r.entries (packed_bytes f d / 8)) (λ _.
    good (packed_at f at (packed_bytes f d / 8))))
