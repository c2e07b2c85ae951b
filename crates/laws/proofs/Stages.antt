-- The calls by their stages: each check on what the checks before it found.
-- Assumes nothing.
use Prim.Native.Nat.{ℕ}
use mathlib.Core.Path.{◌≡◌, sym, ◌∙◌}
use mathlib.Core.List.{List, [], ◌++◌}
use lib.ListN.{length}
use Rattle.rules.specs.Outcome.{good, and_then}
use Rattle.rules.specs.Checks.{Check, checked}
use Rattle.rules.specs.Headers.{header_checks, the_headers, headers_of}
use Rattle.rules.specs.Segments.{loads_check}
use Rattle.rules.specs.Dynamic.{dynamic_of, symtab, known_tags, entries_check, entry_of}
use Rattle.rules.specs.Tables.{relocations_of, descriptors_of}
use Rattle.rules.specs.Packed.{packed_of}
use Rattle.rules.specs.Descriptors.{globals_of}
use Rattle.rules.specs.Reader.{the_dynamic, the_relocations, the_descriptors, the_module, reader_checks, module_of}
use Rattle.rules.specs.Examine.{facts_of, module_checks, examined_of}
use Rattle.rules.specs.Load.{loaded, call_checks, load_of}
use Rattle.rules.specs.declared.Headers.{Headers}
use Rattle.rules.specs.declared.Dynamic.{Dynamic}
use Rattle.rules.specs.declared.Relocations.{Relocations}
use Rattle.rules.specs.declared.Packed.{Packed}
use Rattle.rules.specs.declared.Descriptors.{Descriptors}
use Rattle.rules.specs.declared.Module.{Module}
use Rattle.rules.proofs.ChecksLaws.{checked-append, checked_then, done, link, test, lists}

-- ---- the reader

-- a module of its parts
abbrev pub module_with : List ℕ → Headers → Dynamic → Relocations → Packed → Descriptors → ℕ → Module
module_with f h d r k t n =
    record { headers = h; dynamic = d; symbols = entry_of f d symtab; relocations = r; packed = k; descriptors = t; globals = n }

pub module_stages : (f : List ℕ) → module_of f ≡
    and_then (headers_of f) (λ h.
    and_then (loads_check f h) (λ _.
    and_then (dynamic_of f h) (λ d.
    and_then (entries_check known_tags f d) (λ _.
    and_then (relocations_of f h d) (λ r.
    and_then (descriptors_of f h d) (λ t.
    and_then (packed_of f h d r) (λ k.
    and_then (globals_of f h t) (λ gs.
    good (module_with f h d r k t (length gs))))))))))
unfolding module_of headers_of
module_stages f =
    sym (lists (header_checks f) (the_headers f) _ (test (loads_check f (the_headers f)) _
    (link (record { at = 0; entries = 0 }) (dynamic_of f (the_headers f)) _ (test (entries_check known_tags f (the_dynamic f)) _
    (link (record { at = 0; entries = 0 }) (relocations_of f (the_headers f) (the_dynamic f)) _
    (link (record { at = 0; bytes = 0 }) (descriptors_of f (the_headers f) (the_dynamic f)) _
    (link (record { at = 0; words = 0; places = 0 }) (packed_of f (the_headers f) (the_dynamic f) (the_relocations f)) _
    (link [] (globals_of f (the_headers f) (the_descriptors f)) _ done)))))))).so

-- ---- a call that goes on from the reader

pub stages : {A : Type 0} (f : List ℕ) (checks : Module → List Check) (a : Module → A)
    → checked (reader_checks f ++ checks (the_module f)) (a (the_module f)) ≡ and_then (module_of f) (λ m. checked (checks m) (a m))
unfolding module_of
stages f checks a =
    checked-append (reader_checks f) (checks (the_module f)) (a (the_module f))
    ∙ sym (checked_then (reader_checks f) (the_module f) (λ m. checked (checks m) (a m)))

pub examined_stages : (f : List ℕ) → examined_of f ≡ and_then (module_of f) (λ m. checked (module_checks f m) (facts_of f m))
unfolding examined_of
examined_stages f = stages f (module_checks f) (facts_of f)

pub load_stages : (f : List ℕ) (bias n p : ℕ) (choices : List ℕ)
    → load_of f bias n p choices ≡ and_then (module_of f) (λ m. checked (call_checks f m bias n p choices) (loaded f m bias n p choices))
unfolding load_of
load_stages f bias n p choices = stages f (λ m. call_checks f m bias n p choices) (λ m. loaded f m bias n p choices)
