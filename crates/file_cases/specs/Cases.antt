-- What the reader and examine answer to the module and to changed copies of it. No case needs the rules to be read.
-- Assumes nothing.
use Rattle.std.specs.Prelude.{ℕ, ◌+◌, ◌≡◌, List, [], ◌∷◌, map, take, Some}
use Rattle.rules.specs.Outcome.{good, refuse}
use Rattle.rules.specs.Reader.{module_of}
use Rattle.rules.specs.Examine.{examined_of}
use Rattle.rules.specs.declared.Module.{Module}
use Rattle.rules.specs.declared.Facts.{Facts}
use Rattle.rules.specs.declared.Mode.TheVariants as mode
use Rattle.rules.specs.declared.Switch.TheVariants as switch
use Rattle.file_cases.specs.Sample.{minus, sample, with, header, dynamic, symbol, entry, descriptor}

-- a file that is refused with a number at a position
pub record Case : Type 0 where
  pub file : List ℕ
  pub number : ℕ
  pub position : ℕ

abbrev refused : List ℕ → ℕ → ℕ → Case
refused file number position = record { file = file; number = number; position = position }

-- the file, its identification and its header; its table last, which ends a byte late, and past 2^64 where a sum that wrapped would end at 112
abbrev pub header_cases : List Case
header_cases =
    refused (take 63 sample) 1 0
    ∷ refused (with sample 0 1 0x7e) 2 0
    ∷ refused (with sample 5 1 2) 2 5
    ∷ refused (with (with sample 6 1 0) 16 2 2) 2 6
    ∷ refused (with sample 16 2 2) 3 0
    ∷ refused (with sample 18 2 62) 3 0
    ∷ refused (with sample 20 4 2) 3 0
    ∷ refused (with sample 54 2 64) 3 0
    ∷ refused (with sample 56 2 0) 3 0
    ∷ refused (with sample 56 2 17) 3 0
    ∷ refused (with sample 32 8 473) 3 0
    ∷ refused (with sample 32 8 (minus 56)) 3 0
    ∷ []

-- PT_LOAD: no memory; more file than memory; past the file, and past 2^64, where a sum that wrapped would be 0; past memory's limit; before
-- the last end; align 3; align 24, by which offset and vaddr, both 0, agree; align 128, by which offset 592 and vaddr 656 do not; the lowest of two
abbrev pub load_cases : List Case
load_cases =
    refused (with (with sample (header 1 + 32) 8 0) (header 1 + 40) 8 0) 4 1
    ∷ refused (with sample (header 1 + 40) 8 47) 4 1
    ∷ refused (with sample (header 1 + 32) 8 49) 4 1
    ∷ refused (with sample (header 1 + 8) 8 (minus 48)) 4 1
    ∷ refused (with sample (header 1 + 40) 8 16776561) 4 1
    ∷ refused (with sample (header 1 + 16) 8 528) 4 1
    ∷ refused (with sample (header 1 + 48) 8 3) 4 1
    ∷ refused (with sample (header 0 + 48) 8 24) 4 0
    ∷ refused (with sample (header 1 + 48) 8 128) 4 1
    ∷ refused (with (with sample (header 1 + 48) 8 128) (header 0 + 40) 8 591) 4 0
    ∷ []

-- PT_DYNAMIC: none; two; no multiple of 16; no DT_NULL; not backed
abbrev pub dynamic_cases : List Case
dynamic_cases =
    refused (with sample (header 2) 4 4) 5 3
    ∷ refused (with sample (header 1) 4 2) 5 2
    ∷ refused (with sample (header 2 + 32) 8 168) 5 2
    ∷ refused (with sample (header 2 + 32) 8 112) 5 2
    ∷ refused (with sample (header 2 + 16) 8 592) 5 2
    ∷ []

-- entries: values that are not allowed; REL, JMPREL; a repeated tag, with another value and with the same; a partner missing, RELR's among them
abbrev pub entry_cases : List Case
entry_cases =
    refused (with sample (dynamic 1 + 8) 8 25) 6 1
    ∷ refused (with sample (dynamic 3 + 8) 8 97) 6 3
    ∷ refused (with sample (dynamic 4 + 8) 8 16) 6 4
    ∷ refused (with (with sample (dynamic 7) 8 0x70000009) (dynamic 7 + 8) 8 2) 6 7
    ∷ refused (with (with sample (dynamic 7) 8 0x7000000b) (dynamic 7 + 8) 8 2) 6 7
    ∷ refused (with (with sample (dynamic 7) 8 0x7000000c) (dynamic 7 + 8) 8 2) 6 7
    ∷ refused (with sample (dynamic 7) 8 17) 6 7
    ∷ refused (with sample (dynamic 7) 8 23) 6 7
    ∷ refused (with sample (dynamic 7) 8 36) 6 8
    ∷ refused (with sample (dynamic 7) 8 6) 6 7
    ∷ refused (with (with sample (dynamic 7) 8 6) (dynamic 7 + 8) 8 408) 6 7
    ∷ refused (with sample (dynamic 1) 8 30) 6 7
    ∷ refused (with sample (dynamic 3) 8 30) 6 7
    ∷ refused (with sample (dynamic 4) 8 30) 6 7
    ∷ refused (with sample (dynamic 6) 8 30) 6 7
    ∷ []

-- tables: over the end of a file part; not backed; the relocations' first
abbrev pub table_cases : List Case
table_cases =
    refused (with sample (dynamic 2 + 8) 8 520) 7 0
    ∷ refused (with sample (dynamic 5 + 8) 8 640) 7 1
    ∷ refused (with (with sample (dynamic 2 + 8) 8 640) (dynamic 5 + 8) 8 640) 7 0
    ∷ []

-- descriptors: cut short; after its PT_LOAD; before it; across its end; cut short after one that is outside. In a longer form: the first
-- number padded; the second; a second number of 6, where 7 is not one; padded and outside; outside before one that is padded; padded and cut short
abbrev pub descriptor_cases : List Case
descriptor_cases =
    refused (with sample (descriptor 3) 1 0x08) 8 2
    ∷ refused (with sample (descriptor 3) 1 0x11) 9 2
    ∷ refused (with sample (descriptor 0) 1 0xc1) 9 0
    ∷ refused (with sample (descriptor 3) 1 0x0a) 9 2
    ∷ refused (with (with sample (descriptor 0) 1 0xc1) (descriptor 3) 1 0x08) 9 0
    ∷ refused (with sample (descriptor 1) 3 0x010082) 16 0
    ∷ refused (with sample (descriptor 0) 3 0x008700) 16 0
    ∷ refused (with sample (descriptor 2) 2 0x0600) 16 1
    ∷ refused (with sample (descriptor 2) 2 0x0700) 9 1
    ∷ refused (with sample (descriptor 2) 2 0x00a1) 16 1
    ∷ refused (with (with sample (descriptor 0) 1 0xc1) (descriptor 2) 2 0x0081) 9 0
    ∷ refused (with sample (descriptor 2) 2 0x0080) 8 1
    ∷ []

-- kinds and symbols: another kind, also one that ends in the 16 bits of ABS64; RELATIVE with a symbol; ABS64 and GLOB_DAT without; no symbol
-- table; types 6 and 10; sections from 0xff00 up; section 0 and not weak; an entry that is not backed, also one at 2^64, where an address that
-- wrapped would be 0, where a good symbol stands; weak of type 6
abbrev pub symbol_cases : List Case
symbol_cases =
    refused (with sample (entry 0 + 8) 4 1026) 10 0
    ∷ refused (with sample (entry 1 + 8) 4 0x10101) 10 1
    ∷ refused (with sample (entry 0 + 12) 4 1) 10 0
    ∷ refused (with sample (entry 1 + 12) 4 0) 10 1
    ∷ refused (with sample (entry 2 + 12) 4 0) 10 2
    ∷ refused (with (with sample (dynamic 0) 8 30) (dynamic 1) 8 30) 10 1
    ∷ refused (with sample (symbol 1 + 4) 1 0x16) 10 1
    ∷ refused (with sample (symbol 1 + 4) 1 0x1a) 10 1
    ∷ refused (with sample (symbol 1 + 6) 2 0xff00) 10 1
    ∷ refused (with sample (symbol 1 + 6) 2 0xfff1) 10 1
    ∷ refused (with sample (symbol 1 + 6) 2 0) 10 1
    ∷ refused (with sample (entry 1 + 12) 4 7) 10 1
    ∷ refused (with sample (dynamic 0 + 8) 8 (minus 24)) 10 1
    ∷ refused (with sample (symbol 2 + 4) 1 0x26) 10 2
    ∷ []

-- places: no multiple of 8; not writable, of flags 4 and of flags 5; past the end; repeated; 10 before 11 at one entry; the lower entry first
abbrev pub place_cases : List Case
place_cases =
    refused (with sample (entry 0) 8 660) 11 0
    ∷ refused (with sample (entry 0) 8 0) 11 0
    ∷ refused (with sample (header 1 + 4) 4 5) 11 0
    ∷ refused (with sample (entry 0) 8 720) 11 0
    ∷ refused (with sample (entry 2) 8 656) 11 2
    ∷ refused (with (with sample (entry 0) 8 660) (entry 0 + 8) 4 1026) 10 0
    ∷ refused (with (with sample (entry 0) 8 660) (entry 1 + 8) 4 1026) 11 0
    ∷ []

-- the order, where two checks refuse: 1 before 2, 3 before 4, 4 before 5, 5 before 6, 6 before 7, 7 before 8, 8, 16 and 9 before 10; that of 2
-- and 3, of both tables of 7, of 8, 16 and 9, and of 10 and 11 stands above
abbrev pub order_cases : List Case
order_cases =
    refused (take 63 (with sample 0 1 0x7e)) 1 0
    ∷ refused (with (with sample 16 2 2) (header 1 + 40) 8 47) 3 0
    ∷ refused (with (with sample (header 1 + 40) 8 47) (header 2) 4 4) 4 1
    ∷ refused (with (with sample (header 2 + 32) 8 168) (dynamic 1 + 8) 8 25) 5 2
    ∷ refused (with (with sample (dynamic 1 + 8) 8 25) (dynamic 2 + 8) 8 520) 6 1
    ∷ refused (with (with sample (dynamic 2 + 8) 8 520) (descriptor 3) 1 0x08) 7 0
    ∷ refused (with (with sample (descriptor 3) 1 0x08) (entry 0 + 8) 4 1026) 8 2
    ∷ refused (with (with sample (descriptor 2) 2 0x0600) (entry 0 + 8) 4 1026) 16 1
    ∷ refused (with (with sample (descriptor 3) 1 0x11) (entry 0 + 8) 4 1026) 9 2
    ∷ []

-- each case of a list is refused as it says, by the reader; or by examine
abbrev pub Read : List Case → Type 0
Read cases = map (λ (c : Case). module_of c.file) cases ≡ map (λ (c : Case). refuse c.number c.position) cases

abbrev pub Examined : List Case → Type 0
Examined cases = map (λ (c : Case). examined_of c.file) cases ≡ map (λ (c : Case). refuse c.number c.position) cases

-- the module as the reader finds it
abbrev sample_module : Module
sample_module = record {
  headers = record { table = 64; count = 3 };
  dynamic = record { at = 232; entries = 7 };
  symbols = Some 408;
  relocations = record { at = 480; entries = 4 };
  packed = record { at = 0; words = 0; places = 0 };
  descriptors = record { at = 576; bytes = 4 };
  globals = 3;
}

-- and its facts
abbrev pub sample_facts : Facts
sample_facts = record { mode = mode.Absent; heap = switch.Absent; stack = switch.Absent; globals = 3; words = 3 }

pub record FileCasesHold : Type 0 where
  pub read : module_of sample ≡ good sample_module
  pub examined : examined_of sample ≡ good sample_facts
  pub headers : Read header_cases
  pub loads : Read load_cases
  pub dynamics : Read dynamic_cases
  pub entries : Read entry_cases
  pub tables : Read table_cases
  pub descriptors : Read descriptor_cases
  pub symbols : Examined symbol_cases
  pub places : Examined place_cases
  pub order : Examined order_cases
