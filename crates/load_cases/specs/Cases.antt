-- What the load answers to the module and to changed copies of it, with lending and choices of each kind. No case needs the rules
-- to be read.
-- Assumes nothing.
use Rattle.std.specs.Prelude.{ℕ, ◌+◌, ◌-◌, ◌^◌, ◌≡◌, List, [], ◌∷◌, ◌++◌, map, replicate}
use Rattle.rules.specs.Outcome.{Outcome, good, refuse, mapped, passed}
use Rattle.rules.specs.Checks.{Check}
use Rattle.rules.specs.Bytes.{le}
use Rattle.rules.specs.Memory.{put, bytes_of}
use Rattle.rules.specs.Load.{Loaded, load_of, facts_after}
use Rattle.rules.specs.declared.Facts.{Facts}
use Rattle.rules.specs.declared.Mode.TheVariants as mode
use Rattle.rules.specs.declared.Switch.TheVariants as switch
use Rattle.demands.specs.Plain.{plain_of}
use Rattle.file_cases.specs.Sample.{joined, dynamic_entry, minus, front, others, sample, with, header, dynamic, symbol, entry, descriptor}

-- ---- the module as it is loaded

abbrev bias : ℕ
bias = 0x40000000

-- memory with two words, the end of the second global and 20 bytes after the start of the first; that of the weak undefined symbol is 0
abbrev memory_of : ℕ → ℕ → List ℕ
memory_of one two =
    joined (front ∷ replicate 64 0 ∷ bytes_of 8 one ∷ bytes_of 8 two ∷ bytes_of 8 0 ∷ others ∷ replicate 16 0 ∷ [])

abbrev facts_with : ℕ → ℕ → Facts
facts_with globals words = record { mode = mode.Absent; heap = switch.Absent; stack = switch.Absent; globals = globals; words = words }

-- what a load with the choices 5, 9 and 3 leaves: the words have the tags of the second global and of the first, though both lie past
-- the end of theirs
abbrev pub sample_loaded : Loaded
sample_loaded = record {
  facts = facts_with 3 3;
  memory = memory_of 0x09000000400002b0 0x05000000400002a4;
  plane = replicate 41 0 ++ (5 ∷ 9 ∷ 0 ∷ 3 ∷ []);
}

-- ---- the cases

pub record Case : Type 0 where
  pub file : List ℕ
  pub bias : ℕ
  pub memory : ℕ
  pub plane : ℕ
  pub choices : List ℕ
  pub says : Outcome Facts

abbrev lent : List ℕ → ℕ → ℕ → ℕ → List ℕ → Outcome Facts → Case
lent file at memory plane choices says =
    record { file = file; bias = at; memory = memory; plane = plane; choices = choices; says = says }

-- a file that is refused, with lending and choices that fit the module
abbrev refused : List ℕ → ℕ → ℕ → Case
refused file number position = lent file bias 720 45 (5 ∷ 9 ∷ 3 ∷ []) (refuse number position)

-- a file that is taken, with the module's facts
abbrev taken : List ℕ → Case
taken file = lent file bias 720 45 (5 ∷ 9 ∷ 3 ∷ []) (good (facts_with 3 3))

-- the module with lending or choices that are refused
abbrev unlent : ℕ → ℕ → ℕ → ℕ → Case
unlent at memory plane number = lent sample at memory plane (5 ∷ 9 ∷ 3 ∷ []) (refuse number 0)

abbrev chosen : List ℕ → Outcome Facts → Case
chosen choices says = lent sample bias 720 45 choices says

-- the module with the entries of mode, heap and stack
abbrev modes : List ℕ
modes =
    put sample (dynamic 7) (joined (dynamic_entry 0x70000009 1 ∷ dynamic_entry 0x7000000b 1 ∷ dynamic_entry 0x7000000c 0 ∷ []))

-- with other values
abbrev modes_with : ℕ → ℕ → ℕ → List ℕ
modes_with one two three =
    put sample (dynamic 7) (joined (dynamic_entry 0x70000009 one ∷ dynamic_entry 0x7000000b two ∷ dynamic_entry 0x7000000c three ∷ []))

-- what is not asked: align 0 and 1; PT_DYNAMIC's own offset; other tags, even when repeated, and 2^32 above REL; where a table of 0 bytes is;
-- the place of an entry that is skipped; a PT_DYNAMIC of 16 bytes, the DT_NULL alone, has no tables; and the facts of the entries for mode,
-- heap and stack
abbrev pub taken_cases : List Case
taken_cases =
    taken (with sample (header 1 + 48) 8 1)
    ∷ taken (with sample (header 1 + 48) 8 0)
    ∷ taken (with sample (header 2 + 8) 8 0)
    ∷ taken (with (with sample (dynamic 7) 8 30) (dynamic 8) 8 30)
    ∷ taken (with sample (dynamic 7) 8 (2 ^ 32 + 17))
    ∷ lent (with (with sample (dynamic 5 + 8) 8 640) (dynamic 6 + 8) 8 0) bias 720 45 [] (good (facts_with 0 3))
    ∷ lent (with (with sample (entry 0 + 8) 4 0) (entry 1) 8 656) bias 720 45 (5 ∷ 9 ∷ 3 ∷ []) (good (facts_with 3 2))
    ∷ lent (with (with sample (header 2 + 16) 8 (dynamic 7)) (header 2 + 32) 8 16) bias 720 45 [] (good (facts_with 0 0))
    ∷ lent modes bias 720 45 (5 ∷ 9 ∷ 3 ∷ [])
    (good (record { mode = mode.Asynchronous; heap = switch.On; stack = switch.Off; globals = 3; words = 3 }))
    ∷ lent (modes_with 0 0 1) bias 720 45 (5 ∷ 9 ∷ 3 ∷ [])
    (good (record { mode = mode.Synchronous; heap = switch.Off; stack = switch.On; globals = 3; words = 3 }))
    ∷ []

-- lending: the bias no multiple of 4,096; bias and memory past 2^48; memory before the last end, no multiple of 16, past its
-- limit, at its limit, and at its limit with the last PT_LOAD's end there too; the plane one short and one long; 11 before 12
abbrev pub lending_cases : List Case
lending_cases =
    unlent 0x40000800 720 45 12
    ∷ unlent (2 ^ 48) 720 45 12
    ∷ unlent bias 704 44 12
    ∷ unlent bias 728 45 12
    ∷ unlent bias 16777232 1048577 12
    ∷ lent sample bias 16777216 1048576 (5 ∷ 9 ∷ 3 ∷ []) (good (facts_with 3 3))
    ∷ lent (with sample (header 1 + 40) 8 16776560) bias 16777216 1048576 (5 ∷ 9 ∷ 3 ∷ []) (good (facts_with 3 3))
    ∷ unlent bias 720 44 12
    ∷ unlent bias 720 46 12
    ∷ lent (with sample (entry 0) 8 660) 0x40000800 720 45 (5 ∷ 9 ∷ 3 ∷ []) (refuse 11 0)
    ∷ []

-- an align for the first PT_LOAD, and a bias; the last PT_LOAD's is 64
abbrev by_align : ℕ → ℕ → Outcome Facts → Case
by_align align at says = lent (with sample (header 0 + 48) 8 align) at 720 45 (5 ∷ 9 ∷ 3 ∷ []) says

-- aligns: a bias that is a multiple of the last one and not of the largest; a largest of 2^63 and bias 0; PT_DYNAMIC's, which is not asked
abbrev pub align_cases : List Case
align_cases =
    by_align 16384 4096 (refuse 12 0)
    ∷ by_align (2 ^ 63) 0 (good (facts_with 3 3))
    ∷ lent (with sample (header 2 + 48) 8 16384) 4096 720 45 (5 ∷ 9 ∷ 3 ∷ []) (good (facts_with 3 3))
    ∷ []

-- addresses: -1; 2^48; that of a symbol; that of a weak undefined one; an addend below 0 that is allowed; 12 before 13
abbrev pub address_cases : List Case
address_cases =
    refused (with sample (entry 0 + 16) 8 (minus 0x40000001)) 13 0
    ∷ refused (with sample (entry 0 + 16) 8 (2 ^ 48 - 0x40000000)) 13 0
    ∷ refused (with sample (symbol 1 + 8) 8 (2 ^ 48 - 0x40000014)) 13 1
    ∷ refused (with sample (entry 2 + 16) 8 (minus 1)) 13 2
    ∷ taken (with sample (entry 0 + 16) 8 (minus 1))
    ∷ lent (with sample (entry 0 + 16) 8 (minus 0x40000001)) bias 720 44 (5 ∷ 9 ∷ 3 ∷ []) (refuse 12 0)
    ∷ []

-- choices: too few; too many; 0; 16; equal where the globals abut, and where they do not; 13 before 14
abbrev pub choice_cases : List Case
choice_cases =
    chosen (5 ∷ 9 ∷ []) (refuse 14 3)
    ∷ chosen (5 ∷ 9 ∷ 3 ∷ 7 ∷ []) (refuse 14 3)
    ∷ chosen (0 ∷ 9 ∷ 3 ∷ []) (refuse 14 0)
    ∷ chosen (5 ∷ 16 ∷ 3 ∷ []) (refuse 14 1)
    ∷ chosen (5 ∷ 5 ∷ 3 ∷ []) (refuse 14 1)
    ∷ chosen (5 ∷ 9 ∷ 9 ∷ []) (good (facts_with 3 3))
    ∷ lent (with sample (entry 2 + 16) 8 (minus 1)) bias 720 45 [] (refuse 13 2)
    ∷ []

-- each case of a list is answered as it says
abbrev pub Answered : List Case → Type 0
Answered cases =
    map (λ (c : Case). facts_after (load_of c.file c.bias c.memory c.plane c.choices)) cases ≡ map (λ (c : Case). c.says) cases

-- ---- a source below 0

-- the module with one global, 0 to 16, and this at 656, the place of a RELATIVE word with the addend 688
abbrev at_zero : ℕ → List ℕ
at_zero loaded = with (with (with sample (dynamic 6 + 8) 8 1) (descriptor 0) 1 0x01) 592 8 loaded

-- the word, where the bias is 0 and the global's tag 5
abbrev word_at_zero : ℕ → Outcome ℕ
word_at_zero loaded = mapped (λ l. le 8 l.memory 656) (load_of (at_zero loaded) 0 720 45 (5 ∷ []))

-- ---- the plain loader

pub record PlainCase : Type 0 where
  pub file : List ℕ
  pub bias : ℕ
  pub says : Check

abbrev bare : List ℕ → ℕ → Check → PlainCase
bare file at says = record { file = file; bias = at; says = says }

-- an entry of a tag and a value where the first DT_NULL was
abbrev with_tag : ℕ → ℕ → List ℕ
with_tag tag value = put sample (dynamic 7) (dynamic_entry tag value)

-- RELR alone; the order, where two checks refuse: 3 before 4, 4 before 5, 6 before 7 and 11, 11 before 12, 12 before 13; 13; what it knows nothing
-- of: a mode of 2, a descriptor table not backed, a descriptor cut short; the bias by the first PT_LOAD's align
abbrev pub plain_cases : List PlainCase
plain_cases =
    bare (with_tag 36 0) bias (refuse 6 8)
    ∷ bare (with (with sample 16 2 2) (header 1 + 40) 8 47) bias (refuse 3 0)
    ∷ bare (with (with sample (header 1 + 40) 8 47) (header 2) 4 4) bias (refuse 4 1)
    ∷ bare (with (with sample (dynamic 1 + 8) 8 25) (dynamic 2 + 8) 8 520) bias (refuse 6 1)
    ∷ bare (with (with_tag 36 0) (entry 0) 8 660) bias (refuse 6 8)
    ∷ bare (with sample (entry 0) 8 660) 0x40000800 (refuse 11 0)
    ∷ bare (with sample (entry 0 + 16) 8 (minus 0x40000001)) 0x40000800 (refuse 12 0)
    ∷ bare (with sample (entry 0 + 16) 8 (minus 0x40000001)) bias (refuse 13 0)
    ∷ bare (with_tag 0x70000009 2) bias (good tt)
    ∷ bare (with sample (dynamic 5 + 8) 8 640) bias (good tt)
    ∷ bare (with sample (descriptor 3) 1 0x80) bias (good tt)
    ∷ bare (with sample (header 0 + 48) 8 16384) 4096 (refuse 12 0)
    ∷ []

abbrev pub PlainAnswered : List PlainCase → Type 0
PlainAnswered cases = map (λ (c : PlainCase). passed (plain_of c.file c.bias 720)) cases ≡ map (λ (c : PlainCase). c.says) cases

-- ---- the claim

-- the module is loaded, the plain loader leaves its words bare, and each case holds
pub record LoadCasesHold : Type 0 where
  pub load : load_of sample bias 720 45 (5 ∷ 9 ∷ 3 ∷ []) ≡ good sample_loaded
  pub plain : plain_of sample bias 720 ≡ good (memory_of 0x400002b0 0x400002a4)
  pub taken : Answered taken_cases
  pub lending : Answered lending_cases
  pub aligns : Answered align_cases
  pub addresses : Answered address_cases
  pub choices : Answered choice_cases
  -- a source of 0 has the global's tag, one of -1 is outside memory
  pub source_zero : word_at_zero (minus 688) ≡ good 0x05000000000002b0
  pub source_below_holds : word_at_zero (minus 689) ≡ good 0x2b0
  pub plain_answers : PlainAnswered plain_cases
