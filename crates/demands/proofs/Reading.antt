-- What the reader has found in a file that it takes.
-- Assumes nothing.
use Prim.Native.Nat.{ℕ}
use mathlib.Core.Path.{◌≡◌, refl}
use mathlib.Core.List.{List}
use lib.ListN.{length}
use Rattle.rules.specs.Outcome.{Outcome, good, bad, found, passed}
use Rattle.rules.specs.Checks.{All}
use Rattle.rules.specs.Headers.{the_headers, headers_of}
use Rattle.rules.specs.Segments.{loads_check}
use Rattle.rules.specs.Dynamic.{dynamic_of, symtab, known_tags, entries_check, entry_of}
use Rattle.rules.specs.Tables.{relocations_of, descriptors_of}
use Rattle.rules.specs.Packed.{packed_of}
use Rattle.rules.specs.Descriptors.{globals_of}
use Rattle.rules.specs.Reader.{the_dynamic, the_relocations, the_descriptors, the_module, reader_checks, module_of}
use Rattle.rules.specs.Choices.{globals_in}
use Rattle.rules.specs.declared.Module.{Module}
use Rattle.demands.proofs.Exactly.{exactly_read}
use Rattle.rules.proofs.OutcomeLaws.{never}

-- the reader's checks pass, and m is what they find
pub record Reads (f : List ℕ) (m : Module) : Type 0 where
  pub headers : headers_of f ≡ good m.headers
  pub loads : loads_check f m.headers ≡ good tt
  pub dynamic : dynamic_of f m.headers ≡ good m.dynamic
  pub entries : entries_check known_tags f m.dynamic ≡ good tt
  pub symbols : m.symbols ≡ entry_of f m.dynamic symtab
  pub relocations : relocations_of f m.headers m.dynamic ≡ good m.relocations
  pub descriptors : descriptors_of f m.headers m.dynamic ≡ good m.descriptors
  pub packed : packed_of f m.headers m.dynamic m.relocations ≡ good m.packed
  pub globals : globals_of f m.headers m.descriptors ≡ good (globals_in f m)
  pub count : m.globals ≡ length (globals_in f m)
  pub found : m ≡ the_module f

-- a check that passes found what stands for it
passed_good : {A : Type 0} (other : A) (o : Outcome A) → passed o ≡ good tt → o ≡ good (found other o)
passed_good other (good a) e = refl
passed_good other (bad r) e = search never

all_reads : (f : List ℕ) → All (reader_checks f) → Reads f (the_module f)
unfolding headers_of
all_reads f a = record {
  headers = rw (a.0, a.1.0, a.1.1.0);
  loads = a.1.1.1.0;
  dynamic = passed_good _ (dynamic_of f (the_headers f)) a.1.1.1.1.0;
  entries = a.1.1.1.1.1.0;
  symbols = refl;
  relocations = passed_good _ (relocations_of f (the_headers f) (the_dynamic f)) a.1.1.1.1.1.1.0;
  descriptors = passed_good _ (descriptors_of f (the_headers f) (the_dynamic f)) a.1.1.1.1.1.1.1.0;
  packed = passed_good _ (packed_of f (the_headers f) (the_dynamic f) (the_relocations f)) a.1.1.1.1.1.1.1.1.0;
  globals = passed_good _ (globals_of f (the_headers f) (the_descriptors f)) a.1.1.1.1.1.1.1.1.1.0;
  count = refl;
  found = refl;
}

pub module_reads : (f : List ℕ) (m : Module) → module_of f ≡ good m → Reads f m
module_reads f m e =
    let x = (exactly_read f).taken_only_if m e in
    rw x.1 (all_reads f x.0)
