-- The load: checks 1 to 7, 15, 8, 16, 9 to 14, in this order, and what it answers and leaves.
-- Assumes nothing.
use Rattle.std.specs.Prelude.{ℕ, List, [], ◌∷◌, ◌++◌}
use Rattle.rules.specs.Outcome.{Outcome, good, bad, mapped}
use Rattle.rules.specs.Checks.{Check, checked}
use Rattle.rules.specs.Reader.{the_module, reader_checks}
use Rattle.rules.specs.Relocations.{place_at, live, items}
use Rattle.rules.specs.Examine.{facts_of, module_checks}
use Rattle.rules.specs.Lending.{lending_check}
use Rattle.rules.specs.Addresses.{addresses_check}
use Rattle.rules.specs.Choices.{globals_in, choices_check}
use Rattle.rules.specs.Image.{image_of}
use Rattle.rules.specs.Plane.{plane_of}
use Rattle.rules.specs.Words.{word_at, writes}
use Rattle.rules.specs.declared.Module.{Module}
use Rattle.rules.specs.declared.Facts.{Facts}

-- what a load that is taken answers and leaves
pub record Loaded : Type 0 where
  pub facts : Facts
  pub memory : List ℕ
  pub plane : List ℕ

abbrev pub loaded_plane : List ℕ → Module → List ℕ → ℕ → List ℕ
loaded_plane f m choices p = plane_of (globals_in f m) choices p

-- memory of n bytes: segments and zeros, then every word
abbrev pub loaded_memory : List ℕ → Module → ℕ → ℕ → List ℕ → List ℕ
loaded_memory f m bias n plane = writes (live f m) (place_at f m) (word_at f m bias n plane) (image_of f m.headers n) 0 (items m)

abbrev pub loaded : List ℕ → Module → ℕ → ℕ → ℕ → List ℕ → Loaded
loaded f m bias n p choices = record {
  facts = facts_of f m;
  memory = loaded_memory f m bias n (loaded_plane f m choices p);
  plane = loaded_plane f m choices p;
}

-- the checks of a module with what is lent: a bias, the lengths of memory and plane, the choices; 12, 13, 14
abbrev pub lent_checks : List ℕ → Module → ℕ → ℕ → ℕ → List ℕ → List Check
lent_checks f m bias n p choices =
    lending_check f m bias n p
    ∷ addresses_check f m bias
    ∷ choices_check f m choices
    ∷ []

-- and all the checks of a module: 10 to 14
abbrev pub call_checks : List ℕ → Module → ℕ → ℕ → ℕ → List ℕ → List Check
call_checks f m bias n p choices = module_checks f m ++ lent_checks f m bias n p choices

-- the reader's checks, then 10 to 14
abbrev pub load_checks : List ℕ → ℕ → ℕ → ℕ → List ℕ → List Check
load_checks f bias n p choices = reader_checks f ++ call_checks f (the_module f) bias n p choices

-- the load of a file that passes them
unfoldable pub load_of : List ℕ → ℕ → ℕ → ℕ → List ℕ → Outcome Loaded
load_of f bias n p choices = checked (load_checks f bias n p choices) (loaded f (the_module f) bias n p choices)

-- the answer of the call: the facts of a load that is taken
abbrev pub facts_after : Outcome Loaded → Outcome Facts
facts_after o = mapped (λ l. l.facts) o

-- memory and plane after the call: as lent where it is refused
abbrev pub memory_after : Outcome Loaded → List ℕ → List ℕ
memory_after (good l) lent = l.memory
memory_after (bad r) lent = lent

abbrev pub plane_after : Outcome Loaded → List ℕ → List ℕ
plane_after (good l) lent = l.plane
plane_after (bad r) lent = lent
