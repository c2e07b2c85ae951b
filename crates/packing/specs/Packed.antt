-- What the exported calls answer: one 64-bit number.
-- Assumes nothing.
use Rattle.std.specs.Prelude.{ℕ, ◌+◌, ◌*◌, ◌^◌, List}
use Rattle.rules.specs.Outcome.{Outcome, good, bad, Refusal}
use Rattle.rules.specs.Descriptors.{Read, finished, global}
use Rattle.rules.specs.Memory.{put_word}
use Rattle.rules.specs.declared.Facts.{Facts}
use Rattle.rules.specs.declared.Mode.{Mode}
use Rattle.rules.specs.declared.Mode.TheVariants as mode
use Rattle.rules.specs.declared.Switch.{Switch}
use Rattle.rules.specs.declared.Switch.TheVariants as switch

-- position × 256 + refusal number
abbrev pub packed_refusal : Refusal → ℕ
packed_refusal r = r.position * 256 + r.number

-- a position below this goes into 64 bits beside a number
abbrev pub pack_limit : ℕ
pack_limit = 2 ^ 56

-- or globals × 256
abbrev pub packed : Outcome Facts → ℕ
packed (good a) = a.globals * 256
packed (bad r) = packed_refusal r

-- or a count × 256: the bytes of a table, or the globals that got a tag
abbrev pub packed_count : Outcome ℕ → ℕ
packed_count (good n) = n * 256
packed_count (bad r) = packed_refusal r

-- the mode: 0 absent, 1 synchronous, 2 asynchronous
abbrev pub mode_number : Mode → ℕ
mode_number mode.Absent = 0
mode_number mode.Synchronous = 1
mode_number mode.Asynchronous = 2

-- heap and stack: 0 absent, 1 off, 2 on
abbrev pub switch_number : Switch → ℕ
switch_number switch.Absent = 0
switch_number switch.Off = 1
switch_number switch.On = 2

-- all facts in one number, which is odd: mode from bit 2 on, heap from 4, stack from 6, globals from 8, words from 25; 0 where
-- the file is refused
abbrev pub facts_number : Facts → ℕ
facts_number a =
    1 + 2 ^ 2 * mode_number a.mode + 2 ^ 4 * switch_number a.heap + 2 ^ 6 * switch_number a.stack
    + 2 ^ 8 * a.globals + 2 ^ 25 * a.words

abbrev pub packed_facts : Outcome Facts → ℕ
packed_facts (good a) = facts_number a
packed_facts (bad r) = 0

-- reading one descriptor: 0 finished, 1 a global, or the refusal number
abbrev pub step_number : Outcome Read → ℕ
step_number (good finished) = 0
step_number (good (global g c)) = 1
step_number (bad r) = r.number

-- the words that it writes: a global's start and granules and the moved cursor, or the position of a refusal
abbrev pub step_words : Outcome Read → List ℕ → List ℕ
step_words (good finished) lent = lent
step_words (good (global g c)) lent =
    put_word (put_word (put_word (put_word lent 0 g.start) 8 g.granules) 16 c.position) 24 c.end
step_words (bad r) lent = put_word lent 0 r.position
