-- What the reader, the load and the plain loader answer to the module with a packed table, and to changed copies of it. No case needs
-- the rules to be read.
-- Assumes nothing.
use Rattle.std.specs.Prelude.{ℕ, ◌+◌, ◌-◌, ◌^◌, ◌≡◌, List, [], ◌∷◌, ◌++◌, map, replicate}
use Rattle.rules.specs.Outcome.{Outcome, good, refuse, mapped, passed}
use Rattle.rules.specs.Memory.{put, bytes_of}
use Rattle.rules.specs.Reader.{module_of}
use Rattle.rules.specs.Load.{Loaded, load_of, facts_after}
use Rattle.rules.specs.declared.Facts.{Facts}
use Rattle.rules.specs.declared.Mode.TheVariants as mode
use Rattle.rules.specs.declared.Switch.TheVariants as switch
use Rattle.demands.specs.Plain.{plain_of}
use Rattle.file_cases.specs.Sample.{joined, dynamic_entry, minus, front, sample, with, dynamic, entry, descriptor}

-- ---- the module: a packed table of two words at 680, in the second PT_LOAD. The first word is the place 696, which holds 0x2a8, an
-- address in the second global; the second names 704 and 712, past the file part

abbrev bias : ℕ
bias = 0x40000000

-- with these words, and this at 696
abbrev packed_with : ℕ → ℕ → ℕ → List ℕ
packed_with one two loaded =
    put (put sample (dynamic 7) (joined (dynamic_entry 36 680 ∷ dynamic_entry 35 16 ∷ dynamic_entry 37 8 ∷ [])))
    616 (joined (bytes_of 8 one ∷ bytes_of 8 two ∷ bytes_of 8 loaded ∷ []))

abbrev packed : List ℕ
packed = packed_with 696 7 0x2a8

-- memory with the words of the entries as they are in the module without a packed table, and the word of 696
abbrev memory_of : ℕ → ℕ → ℕ → List ℕ
memory_of one two three =
    joined (take-front ∷ bytes_of 8 one ∷ bytes_of 8 two ∷ bytes_of 8 0 ∷ bytes_of 8 696 ∷ bytes_of 8 7 ∷ bytes_of 8 three
    ∷ bytes_of 8 bias ∷ bytes_of 8 bias ∷ [])
  where
    take-front : List ℕ
    take-front = put front (dynamic 7) (joined (dynamic_entry 36 680 ∷ dynamic_entry 35 16 ∷ dynamic_entry 37 8 ∷ [])) ++ replicate 64 0

abbrev facts_with : ℕ → Facts
facts_with words = record { mode = mode.Absent; heap = switch.Absent; stack = switch.Absent; globals = 3; words = words }

abbrev loaded_packed : Loaded
loaded_packed = record {
  facts = facts_with 6;
  memory = memory_of 0x09000000400002b0 0x05000000400002a4 0x09000000400002a8;
  plane = replicate 41 0 ++ (5 ∷ 9 ∷ 0 ∷ 3 ∷ []);
}

-- ---- the cases

pub record Case : Type 0 where
  pub file : List ℕ
  pub says : Outcome Facts

abbrev refused : List ℕ → ℕ → ℕ → Case
refused file number position = record { file = file; says = refuse number position }

abbrev taken : List ℕ → ℕ → Case
taken file words = record { file = file; says = good (facts_with words) }

-- the entries: bytes no multiple of 8; an entry size of 24; a partner missing; a table of 0 bytes, anywhere
abbrev pub entry_cases : List Case
entry_cases =
    refused (with packed (dynamic 8 + 8) 8 12) 6 8
    ∷ refused (with packed (dynamic 9 + 8) 8 24) 6 9
    ∷ refused (with packed (dynamic 9) 8 30) 6 10
    ∷ taken (with (with packed (dynamic 7 + 8) 8 (minus 1)) (dynamic 8 + 8) 8 0) 3
    ∷ []

-- check 15: the table over the end of a file part; a bitmap first; its order: after 7, before 8
abbrev pub table_cases : List Case
table_cases =
    refused (with packed (dynamic 7 + 8) 8 696) 15 0
    ∷ refused (packed_with 1 7 0) 15 0
    ∷ refused (with (with packed (dynamic 7 + 8) 8 696) (dynamic 5 + 8) 8 640) 7 1
    ∷ refused (with (with packed (dynamic 7 + 8) 8 696) (descriptor 3) 1 0x08) 15 0
    ∷ []

-- places, reported behind the four entries: no multiple of 8; near 2^64; past the end, by bit 3 and by bit 63; that of an entry; that of a
-- word before; an entry's fault first
abbrev pub place_cases : List Case
place_cases =
    refused (packed_with 698 7 0x2a8) 11 4
    ∷ refused (packed_with (minus 8) 7 0x2a8) 11 4
    ∷ refused (packed_with 696 9 0x2a8) 11 5
    ∷ refused (packed_with 696 (2 ^ 63 + 1) 0x2a8) 11 5
    ∷ refused (packed_with 656 7 0x2a8) 11 4
    ∷ refused (packed_with 696 696 0x2a8) 11 5
    ∷ refused (with (packed_with 698 7 0x2a8) (entry 2 + 8) 4 1026) 10 2
    ∷ []

-- what the words name: bit 2 alone; an entry that is skipped leaves its place free, and a bitmap of no bit names none
abbrev pub named_cases : List Case
named_cases =
    taken (packed_with 696 5 0x2a8) 5
    ∷ taken (with (packed_with 664 1 0x2a8) (entry 1 + 8) 4 0) 3
    ∷ []

-- addresses: 2^48; loaded bytes are unsigned; the second word's; the third item's, which the second word names
abbrev pub address_cases : List Case
address_cases =
    refused (packed_with 696 7 (2 ^ 48 - bias)) 13 4
    ∷ refused (packed_with 696 7 (minus 16)) 13 4
    ∷ refused (with (packed_with 704 696 0) 632 8 (minus 16)) 13 5
    ∷ refused (packed_with 680 7 (minus 16)) 13 5
    ∷ []

-- what the plain loader refuses alike: it knows these tags, and check 15, before 10; 13 at the word and not at the item
abbrev pub plain_cases : List Case
plain_cases =
    refused (with packed (dynamic 8 + 8) 8 12) 6 8
    ∷ refused (packed_with 1 7 0) 15 0
    ∷ refused (with (packed_with 1 7 0) (entry 0 + 8) 4 1026) 15 0
    ∷ refused (packed_with 696 696 0x2a8) 11 5
    ∷ refused (packed_with 696 7 (minus 16)) 13 4
    ∷ refused (packed_with 680 7 (minus 16)) 13 5
    ∷ []

abbrev pub Answered : List Case → Type 0
Answered cases =
    map (λ (c : Case). facts_after (load_of c.file bias 720 45 (5 ∷ 9 ∷ 3 ∷ []))) cases ≡ map (λ (c : Case). c.says) cases

abbrev pub PlainAnswered : List Case → Type 0
PlainAnswered cases = map (λ (c : Case). passed (plain_of c.file bias 720)) cases ≡ map (λ (c : Case). passed c.says) cases

-- ---- the claim

pub record PackedCasesHold : Type 0 where
  pub read : mapped (λ m. m.packed) (module_of packed) ≡ good (record { at = 616; words = 2; places = 3 })
  pub load : load_of packed bias 720 45 (5 ∷ 9 ∷ 3 ∷ []) ≡ good loaded_packed
  pub plain : plain_of packed bias 720 ≡ good (memory_of 0x400002b0 0x400002a4 0x400002a8)
  pub entries : Answered entry_cases
  pub tables : Answered table_cases
  pub places : Answered place_cases
  pub named : Answered named_cases
  pub addresses : Answered address_cases
  pub plain_answers : PlainAnswered plain_cases
