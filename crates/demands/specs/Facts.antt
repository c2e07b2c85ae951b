-- The facts: mode, heap and stack by the values of the dynamic entries; how many globals and words.
-- Assumes nothing.
use Rattle.std.specs.Prelude.{ℕ, ◌+◌, ◌≡◌, not, List, length, eqb}
use Rattle.rules.specs.First.{count_below}
use Rattle.rules.specs.Relocations.{kind_at}
use Rattle.rules.specs.Choices.{globals_in}
use Rattle.rules.specs.declared.Dynamic.{Dynamic}
use Rattle.rules.specs.declared.Module.{Module}
use Rattle.rules.specs.declared.Mode.{Mode}
use Rattle.rules.specs.declared.Mode.TheVariants as mode
use Rattle.rules.specs.declared.Switch.{Switch}
use Rattle.rules.specs.declared.Switch.TheVariants as switch
use Rattle.rules.specs.declared.Facts.{Facts}
use Rattle.demands.specs.Entries.{Has, Lacks}

module _ (f : List ℕ) (d : Dynamic) where
  -- MEMTAG_MODE: 0 synchronous, 1 asynchronous
  pub data Moded : Mode → Type 0 where
    absent : Lacks f d 0x70000009 → Moded mode.Absent
    synchronous : Has f d 0x70000009 0 → Moded mode.Synchronous
    asynchronous : Has f d 0x70000009 1 → Moded mode.Asynchronous

  -- MEMTAG_HEAP or MEMTAG_STACK: 0 off, 1 on
  pub data Switched (tag : ℕ) : Switch → Type 0 where
    absent : Lacks f d tag → Switched tag switch.Absent
    off : Has f d tag 0 → Switched tag switch.Off
    on : Has f d tag 1 → Switched tag switch.On

  pub record Flags (a : Facts) : Type 0 where
    pub mode_said : Moded a.mode
    pub heap_said : Switched 0x7000000b a.heap
    pub stack_said : Switched 0x7000000c a.stack

-- the globals that the table lists; the entries not skipped, and the packed places
pub record Counts (f : List ℕ) (m : Module) (a : Facts) : Type 0 where
  pub globals_listed_holds : a.globals ≡ length (globals_in f m)
  pub words_relocated : a.words ≡ count_below (λ i. not (eqb (kind_at f m i) 0)) m.relocations.entries + m.packed.places
