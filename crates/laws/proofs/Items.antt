-- An item is an entry of the RELA table or a packed place: what its fields are.
-- Assumes nothing.
use Prim.Native.Nat.{ℕ, ◌+◌, ◌≤◌, ◌<◌}
use mathlib.Core.Path.{◌≡◌}
use mathlib.Core.Bool.{true, not}
use mathlib.Core.List.{List}
use lib.Dec.{eqb}
use borrow.Author.Tests.{le-leb, lt-leb}
use Rattle.rules.specs.Bytes.{le}
use Rattle.rules.specs.Image.{loaded_at}
use Rattle.rules.specs.Relocations.{entry_at, kind_at, symbol_at, packed_item, place_at, addend_at, live, position_at, target, target_at}
use Rattle.rules.specs.declared.Module.{Module}
use Rattle.rules.specs.declared.Target.TheVariants.{Defined}

module _ (f : List ℕ) (m : Module) (k : ℕ) where
  module _ (l : k < m.relocations.entries) where
    pub entry-live : live f m k ≡ not (eqb (kind_at f m k) 0)
    unfolding live
    entry-live = rw (lt-leb m.relocations.entries k l)

    pub entry_place : place_at f m k ≡ le 8 f (entry_at m.relocations k)
    unfolding place_at
    entry_place = rw (lt-leb m.relocations.entries k l)

    pub entry_addend : addend_at f m k ≡ le 8 f (entry_at m.relocations k + 16)
    unfolding addend_at
    entry_addend = rw (lt-leb m.relocations.entries k l)

    pub entry_position : position_at f m k ≡ k
    unfolding position_at
    entry_position = rw (lt-leb m.relocations.entries k l)

    pub entry-target : target_at f m k ≡ target f m.headers m.symbols (kind_at f m k) (symbol_at f m k)
    unfolding target_at
    entry-target = rw (lt-leb m.relocations.entries k l)

  module _ (l : m.relocations.entries ≤ k) where
    pub packed-live : live f m k ≡ true
    unfolding live
    packed-live = rw (le-leb m.relocations.entries k l)

    pub packed_place : place_at f m k ≡ (packed_item f m k).place
    unfolding place_at
    packed_place = rw (le-leb m.relocations.entries k l)

    pub packed_addend : addend_at f m k ≡ 0
    unfolding addend_at
    packed_addend = rw (le-leb m.relocations.entries k l)

    pub packed_position : position_at f m k ≡ m.relocations.entries + (packed_item f m k).word
    unfolding position_at
    packed_position = rw (le-leb m.relocations.entries k l)

    pub packed-target : target_at f m k ≡ Defined (loaded_at f m.headers (place_at f m k))
    unfolding target_at
    packed-target = rw (le-leb m.relocations.entries k l)
