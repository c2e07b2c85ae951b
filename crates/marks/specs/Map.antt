-- A map of places of eight bytes each that share no byte: a code of four bits for each word of eight bytes, two to a byte of the map. At
-- most one of the places starts in a word, so the code is 0 where none does, and else one more than its offset there. Word w has slot
-- w + 1, so that a look at the word before the first is a look at slot 0.
-- Assumes nothing.
use Rattle.std.specs.Prelude.{ℕ, ◌+◌, ◌*◌, ◌/◌, ◌%◌, ◌≤◌, Bool, cond, ◌&&◌, ◌||◌, List, length, get_or, set, ltb, leb, eqb}

-- two places share a byte
unfoldable pub shares : ℕ → ℕ → Bool
shares p q = ltb p (q + 8) && ltb q (p + 8)

-- the code of a slot
unfoldable pub code_at : List ℕ → ℕ → ℕ
code_at map slot = cond (eqb (slot % 2) 0) (get_or map (slot / 2) 0 % 16) (get_or map (slot / 2) 0 / 16)

-- a place at offset o of its word is met from the word before (code a) by a start past o, from its own (b) by any start, from the
-- next (c) by a start below o
unfoldable pub looks : ℕ → ℕ → ℕ → ℕ → Bool
looks a b c o = ltb (o + 1) a || (ltb 0 b || (ltb 0 c && leb c o))

unfoldable pub hit : List ℕ → ℕ → Bool
hit map p = looks (code_at map (p / 8)) (code_at map (p / 8 + 1)) (code_at map (p / 8 + 2)) (p % 8)

-- what a code of a slot weighs in its byte
unfoldable pub weight_of : ℕ → ℕ
weight_of slot = cond (eqb (slot % 2) 0) 1 16

-- the map with a place whose word has none yet
unfoldable pub marked : List ℕ → ℕ → List ℕ
marked map p = set map ((p / 8 + 1) / 2) (get_or map ((p / 8 + 1) / 2) 0 + (p % 8 + 1) * weight_of (p / 8 + 1))

-- the map's slots reach the word after the place's
abbrev pub Within : List ℕ → ℕ → Type 0
Within map p = p + 24 ≤ 16 * length map
