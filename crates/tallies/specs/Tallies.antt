-- What is found of the first items: a tally, and how one more item changes it.
-- Assumes nothing.
use Rattle.std.specs.Prelude.{ℕ, ◌+◌, ◌≤◌, ◌<◌, ◌≡◌, Bool, true, cond, ◌⊎◌, List, Option, Some, None, eqb}
use Rattle.rules.specs.Limits.{memory_limit}
use Rattle.rules.specs.First.{first, count_below}
use Rattle.rules.specs.Relocations.{live, position_at}
use Rattle.rules.specs.Addresses.{bad_address}
use Rattle.rules.specs.declared.Module.{Module}
use Rattle.items.specs.Table.{Bounded, Rising}
use Rattle.tallies.specs.declared.Tally.{Tally}

-- a first hit is marked by its position: of n indices, and after one more
unfoldable pub mark_of : (ℕ → Bool) → (ℕ → ℕ) → ℕ → Option ℕ
mark_of hit position n = cond (eqb (first hit 0 n) n) None (Some (position (first hit 0 n)))

unfoldable pub mark_after : Option ℕ → Bool → ℕ → Option ℕ
mark_after (Some mark) hit position = Some mark
mark_after None hit position = cond hit (Some position) None

-- the places of a tally rise by eight bytes or more with one more place: there is none before it and the bounds are crossed, or they rise and
-- it is above
abbrev pub Rises : Tally → ℕ → Type 0
Rises t place = (t.top < t.low) ⊎ ((t.rising ≡ true) × (t.top + 8 ≤ place))

-- a tally with one item more: a word, its address out of range or not, and its place
pub record Tallies (t : Tally) (place : ℕ) (hit : Bool) (position : ℕ) (v : Tally) : Type 0 where
  pub words : v.words ≡ t.words + 1
  pub outside : v.outside ≡ mark_after t.outside hit position
  pub low : (v.low ≤ t.low) × (v.low ≤ place)
  pub top : (t.top ≤ v.top) × (place ≤ v.top)
  pub least : (c : ℕ) → t.top ≤ c → place ≤ c → v.top ≤ c
  pub rises : v.rising ≡ true → Rises t place

-- the tally of the first n items: words, first address that check 13 refuses, the bounds of their places, and that these rise
pub record Tallied (f : List ℕ) (m : Module) (bias n : ℕ) (t : Tally) : Type 0 where
  pub words : t.words ≡ count_below (live f m) n
  pub outside : t.outside ≡ mark_of (bad_address f m bias) (position_at f m) n
  pub bounded : Bounded f m n t.low t.top
  pub limit : t.top ≤ memory_limit
  pub rising : t.rising ≡ true → Rising f m n
  pub some : t.rising ≡ true → t.low ≤ t.top
