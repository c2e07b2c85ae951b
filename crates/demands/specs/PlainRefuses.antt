-- What the plain loader refuses, beside what the load refuses.
-- Assumes nothing.
use Rattle.std.specs.Prelude.{ℕ, ◌≡◌, true, List, [], ◌∷◌}
use Rattle.rules.specs.Outcome.{Outcome, good, bad, refusal, Refusal}
use Rattle.rules.specs.Headers.{the_headers}
use Rattle.rules.specs.Dynamic.{base_tags}
use Rattle.rules.specs.Reader.{the_dynamic}
use Rattle.rules.specs.Load.{Loaded}
use Rattle.demands.specs.Plain.{plain_module, plain_memory}
use Rattle.demands.specs.Lending.{Fitting}
use Rattle.demands.specs.Table.{walk_numbers, listed, EntryFaultBy}

-- the checks that both loaders make alike, by their numbers
abbrev pub shared_numbers : List ℕ
shared_numbers = 1 ∷ 2 ∷ 3 ∷ 4 ∷ 5 ∷ 15 ∷ 10 ∷ 11 ∷ 13 ∷ []

-- the plain loader's numbers from check 12, 10, 15 and 6 on
abbrev pub lending_on : List ℕ
lending_on = 12 ∷ 13 ∷ []

abbrev pub places_on : List ℕ
places_on = 10 ∷ 11 ∷ lending_on

abbrev pub packed_on : List ℕ
packed_on = 15 ∷ places_on

abbrev pub entries_on : List ℕ
entries_on = 6 ∷ 7 ∷ packed_on

module _ (f : List ℕ) (bias n : ℕ) where
  -- a refusal that owes nothing to tags: 6 by the rows of ELF64 alone, 7 of the relocation table, 12 by memory length or bias
  pub data Shared (r : Refusal) : Type 0 where
    alike : listed shared_numbers r.number ≡ true → Shared r
    base_entry : r.number ≡ 6 → EntryFaultBy base_tags f (the_dynamic f) r.position → Shared r
    relocation_table : r ≡ refusal 7 0 → Shared r
    unfit : r ≡ refusal 12 0 → (Fitting f (the_headers f) bias n → ⊥) → Shared r

module _ (f : List ℕ) (bias n : ℕ) (plain : Outcome (List ℕ)) where
  -- the plain loader, which answers so, takes the file, or refuses it with a number of a list
  abbrev pub GoesOn : List ℕ → Type 0
  GoesOn numbers = (r : Refusal) → plain ≡ bad r → listed numbers r.number ≡ true

  -- a refusal of the load, and what the plain loader does then: the same; or, where a memtag entry, the descriptor table, a
  -- descriptor or the plane is at fault, it goes on from there; where the choices are, it takes the file
  pub data Beside (r : Refusal) : Type 0 where
    the_same : Shared f bias n r → plain ≡ bad r → Beside r
    memtag_entry : r.number ≡ 6 → (EntryFaultBy base_tags f (the_dynamic f) r.position → ⊥) → GoesOn entries_on → Beside r
    descriptor_table_holds : r ≡ refusal 7 1 → GoesOn packed_on → Beside r
    descriptor : listed walk_numbers r.number ≡ true → GoesOn places_on → Beside r
    plane_alone : r ≡ refusal 12 0 → Fitting f (the_headers f) bias n → GoesOn (13 ∷ []) → Beside r
    choices_alone : r.number ≡ 14 → plain ≡ good (plain_memory f (plain_module f) bias n) → Beside r

  -- each refusal of the load beside the plain loader's answer; the plain loader refuses in shared ways only, and only what the load refuses
  pub record PlainRefuses (load : Outcome Loaded) : Type 0 where
    pub beside : (r : Refusal) → load ≡ bad r → Beside r
    pub shared_only : (r : Refusal) → plain ≡ bad r → Shared f bias n r
    pub refused_too : (r : Refusal) → plain ≡ bad r → (s : Refusal) × (load ≡ bad s)
