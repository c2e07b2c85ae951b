-- The items of a module that was read: where their table stands, and which places they have.
-- Assumes nothing.
use Rattle.std.specs.Prelude.{ℕ, ◌+◌, ◌*◌, ◌≤◌, ◌<◌, ◌≡◌, true, List, length}
use Rattle.rules.specs.Relocations.{place_at, live}
use Rattle.rules.specs.declared.Module.{Module}

-- its entries are inside the file
abbrev pub Inside : List ℕ → Module → Type 0
Inside f m = m.relocations.at + 24 * m.relocations.entries ≤ length f

-- the places of the first n items, but for those skipped, are from low to top
pub record Bounded (f : List ℕ) (m : Module) (n low top : ℕ) : Type 0 where
  pub above : (i : ℕ) → i < n → live f m i ≡ true → low ≤ place_at f m i
  pub below : (i : ℕ) → i < n → live f m i ≡ true → place_at f m i ≤ top

-- of the first n items, but for those skipped, each place is eight bytes or more above those before it
abbrev pub Rising : List ℕ → Module → ℕ → Type 0
Rising f m n = (i j : ℕ) → j < i → i < n → live f m i ≡ true → live f m j ≡ true → place_at f m j + 8 ≤ place_at f m i
