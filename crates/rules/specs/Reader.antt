-- The reader as a whole: checks 1 to 7, 15, 8, 16 and 9, in this order, and the module that they find.
-- Assumes nothing.
use Rattle.std.specs.Prelude.{ℕ, List, [], ◌∷◌, ◌++◌, length}
use Rattle.rules.specs.Outcome.{Outcome, found, passed}
use Rattle.rules.specs.Checks.{Check, checked}
use Rattle.rules.specs.Headers.{header_checks, the_headers}
use Rattle.rules.specs.Segments.{loads_check}
use Rattle.rules.specs.Dynamic.{dynamic_of, symtab, known_tags, entries_check, entry_of}
use Rattle.rules.specs.Tables.{relocations_of, descriptors_of}
use Rattle.rules.specs.Packed.{packed_of}
use Rattle.rules.specs.Descriptors.{globals_of, globals_listed}
use Rattle.rules.specs.declared.Dynamic.{Dynamic}
use Rattle.rules.specs.declared.Relocations.{Relocations}
use Rattle.rules.specs.declared.Packed.{Packed}
use Rattle.rules.specs.declared.Descriptors.{Descriptors}
use Rattle.rules.specs.declared.Module.{Module}

-- what the checks find; what stands here for a refusal is never reached
abbrev pub the_dynamic : List ℕ → Dynamic
the_dynamic f = found (record { at = 0; entries = 0 }) (dynamic_of f (the_headers f))

abbrev pub the_relocations : List ℕ → Relocations
the_relocations f = found (record { at = 0; entries = 0 }) (relocations_of f (the_headers f) (the_dynamic f))

abbrev pub the_packed : List ℕ → Packed
the_packed f = found (record { at = 0; words = 0; places = 0 }) (packed_of f (the_headers f) (the_dynamic f) (the_relocations f))

abbrev pub the_descriptors : List ℕ → Descriptors
the_descriptors f = found (record { at = 0; bytes = 0 }) (descriptors_of f (the_headers f) (the_dynamic f))

abbrev pub the_module : List ℕ → Module
the_module f = record {
  headers = the_headers f;
  dynamic = the_dynamic f;
  symbols = entry_of f (the_dynamic f) symtab;
  relocations = the_relocations f;
  packed = the_packed f;
  descriptors = the_descriptors f;
  globals = length (globals_listed f (the_headers f) (the_descriptors f));
}

-- check 5; check 7 of each table; check 15; checks 8, 16 and 9, one walk
abbrev pub dynamic_check : List ℕ → Check
dynamic_check f = passed (dynamic_of f (the_headers f))

abbrev pub relocation_table_check : List ℕ → Check
relocation_table_check f = passed (relocations_of f (the_headers f) (the_dynamic f))

abbrev pub descriptor_table_check : List ℕ → Check
descriptor_table_check f = passed (descriptors_of f (the_headers f) (the_dynamic f))

abbrev pub packed_check : List ℕ → Check
packed_check f = passed (packed_of f (the_headers f) (the_dynamic f) (the_relocations f))

abbrev pub globals_check : List ℕ → Check
globals_check f = passed (globals_of f (the_headers f) (the_descriptors f))

-- checks 1 to 7, 15, 8, 16 and 9, in this order
abbrev pub reader_checks : List ℕ → List Check
reader_checks f =
    header_checks f
    ++ (loads_check f (the_headers f)
    ∷ dynamic_check f
    ∷ entries_check known_tags f (the_dynamic f)
    ∷ relocation_table_check f
    ∷ descriptor_table_check f
    ∷ packed_check f
    ∷ globals_check f
    ∷ [])

-- the module of a file that passes them
unfoldable pub module_of : List ℕ → Outcome Module
module_of f = checked (reader_checks f) (the_module f)
