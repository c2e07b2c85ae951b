-- The order of checking, by the numbers: each call's checks refuse one after the other as document 01 has them.
-- Assumes nothing.
use Rattle.std.specs.Prelude.{ℕ, ◌≡◌, Bool, true, ◌&&◌, List, [], ◌∷◌, ◌++◌, eqb}
use Rattle.rules.specs.Outcome.{good, bad, Refusal}
use Rattle.rules.specs.Checks.{Check}
use Rattle.demands.specs.Table.{walk_numbers, listed}

-- a refusal with one of some numbers; with a number at a position
abbrev pub by : List ℕ → Refusal → Bool
by numbers r = listed numbers r.number

abbrev pub by_at : ℕ → ℕ → Refusal → Bool
by_at number position r = listed (number ∷ []) r.number && eqb r.position position

-- checks that refuse in this order: each, where those before it pass, in its own way alone
abbrev pub InOrder : List Check → List (Refusal → Bool) → Type 0
InOrder [] [] = Unit
InOrder [] (own ∷ order) = ⊥
InOrder (c ∷ checks) [] = ⊥
InOrder (c ∷ checks) (own ∷ order) = ((r : Refusal) → c ≡ bad r → own r ≡ true) × (c ≡ good tt → InOrder checks order)

-- 1 to 7, of the relocation table and then of the descriptor table; 15; one walk of 8, 16 and 9
abbrev pub reader_order : List (Refusal → Bool)
reader_order =
    by (1 ∷ []) ∷ by (2 ∷ []) ∷ by (3 ∷ []) ∷ by (4 ∷ []) ∷ by (5 ∷ []) ∷ by (6 ∷ []) ∷ by_at 7 0 ∷ by_at 7 1 ∷ by (15 ∷ []) ∷ by walk_numbers ∷ []

-- then one walk of 10 and 11
abbrev pub examine_order : List (Refusal → Bool)
examine_order = reader_order ++ (by (10 ∷ 11 ∷ []) ∷ [])

-- then 12, 13 and 14
abbrev pub load_order : List (Refusal → Bool)
load_order = examine_order ++ (by (12 ∷ []) ∷ by (13 ∷ []) ∷ by (14 ∷ []) ∷ [])

-- the plain loader: 1 to 7, 15 and 10 to 13, without descriptors and choices
abbrev pub plain_order : List (Refusal → Bool)
plain_order =
    by (1 ∷ []) ∷ by (2 ∷ []) ∷ by (3 ∷ []) ∷ by (4 ∷ []) ∷ by (5 ∷ []) ∷ by (6 ∷ []) ∷ by_at 7 0 ∷ by (15 ∷ []) ∷ by (10 ∷ 11 ∷ [])
    ∷ by (12 ∷ []) ∷ by (13 ∷ []) ∷ []
