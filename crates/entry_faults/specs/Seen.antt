-- The items one after the other, each by itself: the lowest with a fault of its own, and what is found of those before it.
-- Assumes nothing.
use Rattle.std.specs.Prelude.{ℕ, ◌-◌, ◌≤◌, ◌<◌, ◌≡◌, List, length, Option, Some, None}
use Rattle.rules.specs.Outcome.{good}
use Rattle.rules.specs.Limits.{entry_limit}
use Rattle.rules.specs.Answers.{number_of}
use Rattle.rules.specs.First.{first}
use Rattle.rules.specs.Segments.{loads_check}
use Rattle.rules.specs.Packed.{packed_before}
use Rattle.rules.specs.Relocations.{items, position_at}
use Rattle.rules.specs.declared.Module.{Module}
use Rattle.rules.specs.declared.Refusal.{Refusal}
use Rattle.items.specs.Table.{Inside}
use Rattle.judging.specs.Judges.{item_fault, has_fault}
use Rattle.tallies.specs.Tallies.{Tallied}
use Rattle.tallies.specs.declared.Tally.{Tally}
use Rattle.entry_faults.specs.declared.Seen.{Seen}

-- what the reader has made sure of
pub record Ready (f : List ℕ) (m : Module) : Type 0 where
  pub loads : loads_check f m.headers ≡ good tt
  pub inside : Inside f m
  pub counted : m.packed.places ≡ length (packed_before f m.packed.at m.packed.words)
  pub few : items m ≤ entry_limit

-- the walk from item k to item n is before item i: no fault is before it, and those before it are tallied
pub record Seeing (f : List ℕ) (m : Module) (bias k n : ℕ) (t : Tally) (i : ℕ) : Type 0 where
  pub above : k ≤ i
  pub below : i ≤ n
  pub lowest : first (has_fault f m) k (n - k) ≡ first (has_fault f m) i (n - i)
  pub tallied : Tallied f m bias i t

-- a refusal has a number and a position
abbrev pub Says : Option Refusal → ℕ → ℕ → Type 0
Says (Some r) number position = (number_of r.reason ≡ number) × (r.position ≡ position)
Says None number position = ⊥

-- what is seen of the items from k to n: the lowest with a fault, its fault and its position; the tally of all before it
pub record SeesIn (f : List ℕ) (m : Module) (bias k n : ℕ) (s : Seen) : Type 0 where
  pub lowest : s.item ≡ first (has_fault f m) k (n - k)
  pub fault : s.item < n → Says s.fault (item_fault f m s.item) (position_at f m s.item)
  pub none : s.item ≡ n → s.fault ≡ None
  pub tallied : Tallied f m bias s.item s.tally

-- of all items from k on
abbrev pub SeesFrom : List ℕ → Module → ℕ → ℕ → Seen → Type 0
SeesFrom f m bias k s = SeesIn f m bias k (items m) s

-- of the first n items
abbrev pub Sees : List ℕ → Module → ℕ → ℕ → Seen → Type 0
Sees f m bias n s = SeesIn f m bias 0 n s
