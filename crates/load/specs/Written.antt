-- What the writes of a load leave.
-- Assumes nothing.
use Rattle.std.specs.Prelude.{ℕ, List, replicate}
use Rattle.rules.specs.Descriptors.{table_start, descriptor_table}
use Rattle.rules.specs.Relocations.{items}
use Rattle.rules.specs.Image.{image_of}
use Rattle.rules.specs.declared.Module.{Module}
use Rattle.rela_words.specs.Words.{relocated}
use Rattle.tags.specs.Walks.{tagged_from}

-- the plane and the memory that the writes leave, whatever the module
abbrev pub written_plane : List ℕ → Module → List ℕ → ℕ → List ℕ
written_plane f m choices p = tagged_from (descriptor_table f m.descriptors) choices (replicate p 0) m.globals 0 table_start

abbrev pub written_memory : List ℕ → Module → ℕ → List ℕ → ℕ → List ℕ
written_memory f m bias plane n = relocated f m bias plane (image_of f m.headers n) (items m)
