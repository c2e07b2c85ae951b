-- The facts of a module; examine: every check before 12, and the facts.
-- Assumes nothing.
use Rattle.std.specs.Prelude.{ℕ, cond, List, [], ◌∷◌, ◌++◌, eqb, Option, Some, None}
use Rattle.rules.specs.Outcome.{Outcome}
use Rattle.rules.specs.Checks.{Check, checked}
use Rattle.rules.specs.Dynamic.{memtag_mode, memtag_heap, memtag_stack, entry_of}
use Rattle.rules.specs.Reader.{the_module, reader_checks}
use Rattle.rules.specs.Relocations.{relocations_check, words_of}
use Rattle.rules.specs.declared.Module.{Module}
use Rattle.rules.specs.declared.Mode.{Mode}
use Rattle.rules.specs.declared.Mode.TheVariants as mode
use Rattle.rules.specs.declared.Switch.{Switch}
use Rattle.rules.specs.declared.Switch.TheVariants as switch
use Rattle.rules.specs.declared.Facts.{Facts}

-- MEMTAG_MODE: 0 synchronous, 1 asynchronous
abbrev pub mode_of : Option ℕ → Mode
mode_of None = mode.Absent
mode_of (Some v) = cond (eqb v 0) mode.Synchronous mode.Asynchronous

-- MEMTAG_HEAP and MEMTAG_STACK: 0 off, 1 on
abbrev pub switch_of : Option ℕ → Switch
switch_of None = switch.Absent
switch_of (Some v) = cond (eqb v 0) switch.Off switch.On

-- the facts of a module
unfoldable pub facts_of : List ℕ → Module → Facts
facts_of f m = record {
  mode = mode_of (entry_of f m.dynamic memtag_mode);
  heap = switch_of (entry_of f m.dynamic memtag_heap);
  stack = switch_of (entry_of f m.dynamic memtag_stack);
  globals = m.globals;
  words = words_of f m;
}

-- the checks of a module that are made of the file alone: 10 and 11, one walk
abbrev pub module_checks : List ℕ → Module → List Check
module_checks f m = relocations_check f m ∷ []

-- the reader's checks, then 10 and 11
abbrev pub examine_checks : List ℕ → List Check
examine_checks f = reader_checks f ++ module_checks f (the_module f)

-- the facts of a file that passes them
unfoldable pub examined_of : List ℕ → Outcome Facts
examined_of f = checked (examine_checks f) (facts_of f (the_module f))
