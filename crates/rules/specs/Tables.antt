-- Check 7: the relocation and descriptor tables; and where any table is backed.
-- Assumes nothing.
use Rattle.std.specs.Prelude.{ℕ, ◌/◌, cond, List, leb, eqb, Option, Some, None}
use Rattle.rules.specs.Outcome.{Outcome, good, refuse, and_then, require}
use Rattle.rules.specs.Limits.{entry_limit}
use Rattle.rules.specs.Segments.{backing_of}
use Rattle.rules.specs.Dynamic.{rela, relasz, relr, relrsz, memtag_globals, memtag_globals_size, entry_of}
use Rattle.rules.specs.declared.Headers.{Headers}
use Rattle.rules.specs.declared.Dynamic.{Dynamic}
use Rattle.rules.specs.declared.Relocations.{Relocations}
use Rattle.rules.specs.declared.Descriptors.{Descriptors}

-- an entry's value, 0 where it is absent: an absent table has 0 bytes
abbrev pub or_zero : Option ℕ → ℕ
or_zero None = 0
or_zero (Some v) = v

-- a table of 0 bytes is accepted at any address; any other must be backed
unfoldable pub table_backing : List ℕ → Headers → ℕ → ℕ → Option ℕ
table_backing f h address bytes = cond (eqb bytes 0) (Some 0) (backing_of f h address bytes)

-- refused with a number at a position where the table is not backed
abbrev pub backed : ℕ → ℕ → Option ℕ → Outcome ℕ
backed number position None = refuse number position
backed number position (Some at) = good at

abbrev pub rela_address : List ℕ → Dynamic → ℕ
rela_address f d = or_zero (entry_of f d rela)

abbrev pub rela_bytes : List ℕ → Dynamic → ℕ
rela_bytes f d = or_zero (entry_of f d relasz)

abbrev pub packed_address : List ℕ → Dynamic → ℕ
packed_address f d = or_zero (entry_of f d relr)

abbrev pub packed_bytes : List ℕ → Dynamic → ℕ
packed_bytes f d = or_zero (entry_of f d relrsz)

abbrev pub descriptor_address : List ℕ → Dynamic → ℕ
descriptor_address f d = or_zero (entry_of f d memtag_globals)

abbrev pub descriptor_bytes : List ℕ → Dynamic → ℕ
descriptor_bytes f d = or_zero (entry_of f d memtag_globals_size)

-- check 7: the relocation table not backed or of too many entries
unfoldable pub relocations_of : List ℕ → Headers → Dynamic → Outcome Relocations
relocations_of f h d =
    and_then (backed 7 0 (table_backing f h (rela_address f d) (rela_bytes f d))) (λ at.
    and_then (require (leb (rela_bytes f d / 24) entry_limit) 7 0) (λ _.
    good (record { at = at; entries = rela_bytes f d / 24 })))

-- then the descriptor table not backed
unfoldable pub descriptors_of : List ℕ → Headers → Dynamic → Outcome Descriptors
descriptors_of f h d =
    and_then (backed 7 1 (table_backing f h (descriptor_address f d) (descriptor_bytes f d))) (λ at.
    good (record { at = at; bytes = descriptor_bytes f d }))
